pub mod Noted
pub mod Seen
pub mod Same
pub mod Hearing
pub mod Asking
