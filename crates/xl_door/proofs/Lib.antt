pub mod Passing
pub mod Rounds
