-- Lemmas of this crate.
pub mod NotedLemmas
pub mod WriteLemmas
pub mod ShareLemmas
pub mod TableLemmas
pub mod TurnLemmas
