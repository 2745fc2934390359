pub mod Texts
pub mod Replays
pub mod Headlines
pub mod Readings
