pub mod PairKeyLaws
pub mod RingLaws
pub mod OpeningLaws
pub mod SealingLaws
pub mod MacLaws
pub mod ComparingLaws
pub mod MissingLaws
pub mod SourceLaws
