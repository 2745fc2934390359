pub mod Given
pub mod Cutting
pub mod Kept
