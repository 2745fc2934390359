pub mod Orders
pub mod Negative
pub mod Staying
pub mod Enough
pub mod Rings
pub mod Kept
