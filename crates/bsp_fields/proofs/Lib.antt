-- Lemmas of this crate.
pub mod DecimalLemmas
pub mod FirstFaultLemmas
pub mod ZonedLemmas
pub mod CodeLemmas
pub mod DocumentLemmas
pub mod DayLemmas
pub mod DayOrderLemmas
pub mod DayTextLemmas
pub mod MoneyLemmas
pub mod TokenLemmas
pub mod CutLemmas
pub mod RestLemmas
pub mod CharacterLemmas
pub mod DigitLemmas
pub mod TextLemmas
pub mod FieldLemmas
pub mod TaxPlaces
