pub mod TokenLemmas
pub mod NumberLemmas
pub mod MemberLemmas
pub mod TxSetLemmas
pub mod PlaceLemmas
pub mod NameLemmas
pub mod LedgerLemmas
