pub mod Towards
pub mod Ranks
pub mod BestLaws
