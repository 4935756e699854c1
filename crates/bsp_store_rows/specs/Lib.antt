pub mod Tables
pub mod PlacedTables
