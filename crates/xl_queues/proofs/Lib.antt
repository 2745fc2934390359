pub mod Accounting
pub mod Broadcasting
pub mod AllAccounting
