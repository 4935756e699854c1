-- Lemmas of this crate.
pub mod ReadLemmas
pub mod ValueLemmas
pub mod OrderLemmas
pub mod AmountTests
pub mod FormTests
pub use Rattle.bsp_fields.proofs.CharacterLemmas
pub use Rattle.bsp_fields.proofs.DigitLemmas
