-- Lemmas of this crate.
pub mod TableLemmas
pub mod TextLemmas
