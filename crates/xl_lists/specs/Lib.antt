pub mod Lists
pub mod Marks
pub mod Stored
pub mod Quorums
pub mod Agreement
