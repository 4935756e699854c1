-- Lemmas of this crate.
pub mod FileLemmas
pub mod RunLemmas
pub mod RetLemmas
