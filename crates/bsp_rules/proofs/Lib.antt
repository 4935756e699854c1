-- Lemmas on the rules.
pub mod CommissionLemmas
pub mod TaxLemmas
pub mod SharedLemmas
pub mod SelectedLemmas
pub mod SameContentLemmas
pub mod FoundLemmas
pub mod MeaningLemmas
pub mod RowLemmas
