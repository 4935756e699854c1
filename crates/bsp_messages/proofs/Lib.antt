-- Lemmas of this crate.
pub mod BodyLemmas
pub mod TextLemmas
