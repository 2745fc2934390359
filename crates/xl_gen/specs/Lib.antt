pub mod Sizes
pub mod Schedule
pub mod Summaries
