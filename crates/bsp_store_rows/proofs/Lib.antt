pub mod Orders
pub mod MetaTable
pub mod PlacedTables
pub mod Tables
