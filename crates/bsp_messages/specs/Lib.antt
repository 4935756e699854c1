-- What the contracts of messages cite.
pub mod Values
pub mod Members
pub mod Bodies
pub mod Refusals
pub mod Answers
pub mod VerdictTexts
pub mod Replies
