-- What the contracts of the trials of plans cite.
pub mod PlanLines
pub mod Plans
pub mod Texts
pub mod Turns
