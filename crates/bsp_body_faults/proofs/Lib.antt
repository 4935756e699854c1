-- Lemmas of this crate.
pub mod PlanLemmas
