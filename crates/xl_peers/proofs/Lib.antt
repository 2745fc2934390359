pub mod Growing
pub mod Splitting
pub mod Feeding
pub mod Stepping
pub mod Finishing
pub mod Drained
pub mod Handed
pub mod Rounds
