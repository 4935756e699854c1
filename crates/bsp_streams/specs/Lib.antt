-- What the contracts of reading and writing cite, and those of serving many connections.
pub mod Noted
pub mod Written
pub mod Bounds
pub mod Events
pub mod Moves
pub mod Serving
pub mod Shares
pub mod Talks
