pub mod Scripts
pub mod Memory
pub mod Sources
pub mod Sinks
pub mod Streams
pub mod Keepers
pub mod Saves
