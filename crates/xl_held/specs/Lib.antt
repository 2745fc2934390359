pub mod Words
pub mod Lines
pub mod Changes
pub mod Hearing
pub mod Asking
