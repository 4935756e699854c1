-- What the contracts of the codes cite.
pub mod Codes
pub mod Table
pub mod Texts
