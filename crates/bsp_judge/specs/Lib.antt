-- What the contracts of the trials cite.
pub mod Asked
pub mod Judged
pub mod Steps
pub mod Unjudged
