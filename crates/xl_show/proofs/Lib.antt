pub mod Extending
pub mod Telling
pub mod Ending
pub mod Looking
pub mod Soon
pub mod Short
