pub mod TallySteps
pub mod ValueLemmas
pub mod DerivedLemmas
pub mod AskedLemmas
pub mod IssuedLemmas
