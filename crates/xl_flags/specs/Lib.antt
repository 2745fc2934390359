pub mod Votes
pub mod Flags
pub mod Kept
