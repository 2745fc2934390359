pub mod Replies
pub mod Rounds
pub mod Attending
pub mod Hearing
