pub mod Equivocations
pub mod Forks
pub mod Laws
pub mod Kept
