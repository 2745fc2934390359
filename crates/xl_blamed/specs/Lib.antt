pub mod Showing
pub mod Gathering
pub mod Given
pub mod Reading
pub mod Texts
