-- What the contracts of the office over HTTP cite.
pub mod Replies
pub mod Uses
pub mod Bodies
pub mod Messages
pub mod Laws
pub mod Serving
