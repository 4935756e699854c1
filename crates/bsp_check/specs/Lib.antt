-- What the contracts of the reports cite.
pub mod Verdicts
pub mod Streams
pub mod Windows
pub mod Widths
pub mod Judging
pub mod HotJudging
pub mod Inputs
pub mod RetReport
pub mod RetJudging
pub mod HotReport
pub mod HotLines
pub mod HotListing
