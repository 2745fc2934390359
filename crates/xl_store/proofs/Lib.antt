pub mod Peers
pub mod Journals
pub mod Making
pub mod Keeping
pub mod Kept
pub mod Noting
pub mod Turning
pub mod Filling
