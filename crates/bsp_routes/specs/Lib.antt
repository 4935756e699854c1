-- What the contracts of the heads, the routes and the responses cite.
pub mod Targets
pub mod Calls
pub mod Resources
pub mod Rows
pub mod Matches
pub mod Routed
pub mod Replies
pub mod Scan
pub mod Elements
pub mod Fields
pub mod Found
pub mod Lengths
pub mod Hosts
pub mod Judging
pub mod Head
pub mod ResponseHeads
pub mod Responses
