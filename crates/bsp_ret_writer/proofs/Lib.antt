-- Lemmas of this crate.
pub mod FormLemmas
pub mod DocumentLemmas
pub mod SaleLemmas
pub mod TaxLemmas
pub mod TaxTests
pub mod AmountLemmas
pub mod WrittenGroup
pub mod ContentLemmas
pub mod ContentMakes
pub mod WritingLemmas
pub mod WrittenFile
pub use Rattle.bsp_fields.proofs.CharacterLemmas
pub use Rattle.bsp_fields.proofs.TextLemmas
