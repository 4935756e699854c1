-- What the contracts of the words cite.
pub mod CommandLine
pub mod Commands
pub mod Filling
pub mod Order
