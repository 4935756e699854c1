-- What the contracts of written RET files cite.
pub mod Stored
pub mod GroupValues
pub mod Writing
pub use Rattle.bsp_fields.specs.Columns
pub use Rattle.bsp_fields.specs.Taxes
