pub mod Counting
mod Staying
pub mod Untold
mod Writing
pub mod Asked
