-- Why the bodies meet their contracts.
pub mod Finding
pub mod Cutting
pub mod TaxLemmas
pub mod RetLemmas
pub mod RowLemmas
pub mod TrailerLemmas
pub mod FaultLemmas
pub mod WidthLemmas
