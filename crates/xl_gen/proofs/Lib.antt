pub mod Coming
pub mod Summing
pub mod Listed
