-- Lemmas of this crate.
pub mod Pieces
pub mod PlanLemmas
pub mod TextLemmas
pub mod TurnLemmas
