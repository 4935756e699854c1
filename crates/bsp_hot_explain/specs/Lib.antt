-- What the contracts of explanations of HOT files cite.
pub mod HotFields
pub mod HotReasons
pub mod Comparisons
pub mod Headings
