pub mod Hearings
pub mod Texts
