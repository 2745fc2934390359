pub mod Words
pub mod Texts
pub mod Comparing
pub mod States
