pub mod Reporting
pub mod Winning
pub mod Moments
pub mod Remembering
pub mod Opening
pub mod Naming
pub mod Favoring
