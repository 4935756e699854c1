-- What the contracts of explanations cite.
pub mod Fields
pub mod TaxFields
pub mod RetFields
pub mod Reasons
pub mod Lines
pub mod RetReasons
pub mod RetFaults
