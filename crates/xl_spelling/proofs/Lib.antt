mod Joins
mod Numerals
mod Parts
mod Small
mod Asks
mod Members
mod WordLemmas
pub mod Visible
mod Endings
mod LineEndings
mod Saying
mod Happening
mod Telling
pub mod Respelling
mod Commas
pub mod Returns
