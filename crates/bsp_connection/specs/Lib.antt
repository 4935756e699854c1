-- What the contracts of a connection cite.
pub mod Exchanges
pub mod Conversations
pub mod Outputs
pub mod Waiting
pub mod Messages
pub mod Seeking
pub mod Begun
pub mod Talks
pub mod Progress
pub mod Turns
pub mod Ends
pub mod Reads
pub mod Serving
pub mod Steps
