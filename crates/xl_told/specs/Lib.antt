pub mod Hashed
pub mod Words
pub mod Events
pub mod Bodies
