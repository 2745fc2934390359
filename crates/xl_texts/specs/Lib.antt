pub mod Promises
pub mod Streams
pub mod Keeps
