pub mod Lines
pub mod Texts
pub mod Merging
pub mod States
pub mod Orders
