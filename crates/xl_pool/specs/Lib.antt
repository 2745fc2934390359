pub mod Pools
pub mod Entries
pub mod Lends
