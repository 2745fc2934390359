pub mod Evidence
pub mod Innocence
pub mod Journals
pub mod Networks
