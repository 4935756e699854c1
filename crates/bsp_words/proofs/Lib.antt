-- Lemmas of this crate.
pub mod CommandLines
pub mod FillingLemmas
pub mod OrderLemmas
