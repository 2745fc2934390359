pub mod After
pub mod Asking
