pub mod Plans
pub mod Kept
pub mod Tables
pub mod Lookups
pub use Rattle.bsp_memory_tables.specs.Numbers
pub use Rattle.bsp_memory_tables.specs.Used
