pub mod Boards
pub mod Memory
