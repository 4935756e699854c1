-- Lemmas of this crate.
pub mod FactLemmas
pub mod VerdictLemmas
pub mod FileLemmas
pub mod RangeLemmas
pub mod LookUps
pub use Rattle.bsp_office_spec.proofs.ClosedKept
pub use Rattle.bsp_office_spec.proofs.Unchanged
