mod Words
pub mod EmptySet
