pub mod Currents
pub mod Hearing
pub mod Asking
