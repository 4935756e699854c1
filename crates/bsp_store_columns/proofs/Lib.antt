pub mod Placing
pub mod Days
pub mod ReadBack
pub mod Words
pub mod AirlineLemmas
pub mod TaxPlaces
