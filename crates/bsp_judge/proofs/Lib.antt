-- Lemmas of this crate.
pub mod AskLemmas
pub mod JudgeLemmas
pub mod StatementLemmas
pub mod TurnLemmas
pub mod UnjudgedLemmas
