pub mod Steps
pub mod Sessions
pub mod Serving
pub mod Going
pub mod Judging
