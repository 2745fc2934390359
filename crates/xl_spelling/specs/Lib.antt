pub mod Spellings
pub mod Stored
