pub mod Showing
pub mod Answering
pub mod Sealed
pub mod Courses
