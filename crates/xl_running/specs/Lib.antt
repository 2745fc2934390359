pub mod Defaults
pub mod Running
pub mod Seen
pub mod Texts
pub mod Stepping
