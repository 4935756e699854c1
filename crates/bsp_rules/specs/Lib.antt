-- What the contracts of the rules cite.
pub mod Commission
pub mod SameContent
pub mod Refusals
pub mod Amounts
pub mod Nets
pub mod Tax
pub mod Tickets
pub mod Rows
pub mod FactsOf
pub mod Selected
pub mod Verdicts
pub mod Meanings
