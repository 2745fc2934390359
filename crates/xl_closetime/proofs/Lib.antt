pub mod Walking
pub mod MostFrequent
