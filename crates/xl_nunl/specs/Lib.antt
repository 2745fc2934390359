pub mod Heard
pub mod Rings
pub mod Lists
pub mod Deciding
