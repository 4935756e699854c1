pub mod Undo
pub mod Windows
pub mod Picks
pub mod Present
pub mod Spans
pub mod Counts
pub mod Indexes
