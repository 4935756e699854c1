-- Lemmas of this crate.
pub mod Faults
pub mod Pieces
pub mod RetReports
pub mod Reports
pub mod WindowLemmas
pub mod LineLemmas
pub mod TakingLemmas
pub mod JudgingLemmas
pub mod HotLemmas
pub mod HotListLemmas
pub mod TextLemmas
