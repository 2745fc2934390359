pub mod Limits
pub mod Texts
pub mod Shown
pub mod Soon
pub mod Reading
pub mod Steps
pub mod Promises
