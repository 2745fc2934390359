pub mod Numbers
pub mod Resolutions
pub mod Rounding
pub mod Choices
pub mod Frequent
