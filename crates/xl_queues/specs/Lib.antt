pub mod Queues
pub mod Accounts
pub mod Broadcasts
