pub mod OrderLaws
pub mod AtEnd
