pub mod FilterMapLemmas
pub mod NumberOrder
pub mod NumberLemmas
pub mod PlaceOrders
pub mod TableLemmas
pub mod RangeLemmas
pub mod UsedLemmas
