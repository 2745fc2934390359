pub mod AtEnd
pub mod Mixing
mod Summing
mod Confessing
