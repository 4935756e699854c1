-- What the contracts of a HOT file's records cite.
pub mod Records
pub mod Sums
pub mod Judged
pub mod Reading
