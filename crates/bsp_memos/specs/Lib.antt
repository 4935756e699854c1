-- What the contracts of memos cite.
pub mod FirstAnswer
pub mod Reasons
pub mod States
pub mod Texts
pub mod Memos
pub mod Owed
pub mod Steps
pub mod Billing
pub mod Lives
pub mod Kept
