-- What the contracts of the fields and of the records cite.
pub mod FirstFault
pub mod Changes
pub mod Decimal
pub mod Zoned
pub mod Codes
pub mod CivilDay
pub mod Days
pub mod Money
pub mod Tokens
pub mod Lines
pub mod Columns
pub mod Fields
pub mod Taxes
