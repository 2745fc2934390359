pub mod Numbering
pub mod Placing
pub mod AtEnd
