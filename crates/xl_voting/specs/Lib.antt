pub mod Keeping
pub mod Listing
pub mod Tallying
pub mod Texts
pub mod Reports
pub mod Voting
pub mod States
pub mod Promises
