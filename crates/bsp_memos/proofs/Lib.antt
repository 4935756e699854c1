-- Lemmas of this crate.
pub mod ReasonLemmas
pub mod IssueLemmas
pub mod ActionLemmas
pub mod StepLemmas
pub mod LifeLemmas
pub mod LawLemmas
pub mod FitLemmas
pub mod KeptLemmas
