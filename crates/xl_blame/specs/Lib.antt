pub mod Gathering
pub mod Networks
pub mod Texts
pub mod Confessions
pub mod Summary
pub mod Blaming
pub mod States
