pub mod Texts
pub mod Files
pub mod Saves
pub mod Memory
pub mod Boards
