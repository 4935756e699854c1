-- Lemmas of this crate.
pub mod SizeLemmas
pub mod SumLemmas
pub mod PartialItems
pub mod Drafts
pub mod Steps
pub mod Closing
pub mod Taken
pub mod Chains
pub mod FormLemmas
pub mod Judging
pub mod LawLemmas
pub mod StateLemmas
pub mod PieceLemmas
pub use Rattle.bsp_hot_records.proofs.SizeLemmas as HotRecordsSizeLemmas
pub use Rattle.bsp_hot_records.proofs.SumLemmas as HotRecordsSumLemmas
