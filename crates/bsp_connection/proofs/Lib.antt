-- Lemmas of this crate.
pub mod SeekLemmas
pub mod StepLemmas
pub mod TurnLemmas
pub mod TalkLemmas
pub mod ServeLemmas
pub mod ProgressLemmas
pub mod OutputLemmas
