-- What the contracts of the calendar cite.
pub mod Letters
pub mod Faults
pub mod DayOrder
pub mod Published
pub mod Requests
pub mod Standing
pub mod SoundPlan
pub mod Listed
pub mod KeyLaws
pub mod History
pub mod PlanDocument
