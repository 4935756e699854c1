-- What the contracts of the records cite.
pub mod Texts
pub mod Records
pub mod Values
pub use Rattle.bsp_fields.specs.Columns
pub use Rattle.bsp_fields.specs.Fields
pub use Rattle.bsp_fields.specs.Lines
pub use Rattle.bsp_fields.specs.Taxes
