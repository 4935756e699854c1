-- Lemmas of this crate.
pub mod NumberLemmas
pub mod SizeLemmas
pub mod SumLemmas
pub mod ReadingLemmas
pub mod TestLemmas
