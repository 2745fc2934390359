pub mod Counting
pub mod Finding
mod FreeLists
mod Untouched
mod Soundness
