-- Why the bodies meet their contracts.
pub mod HotLemmas
pub mod HotRows
pub mod Differing
pub mod Steps
pub mod HeadingLemmas
pub mod ReasonLemmas
pub mod Names
pub mod LongLemmas
