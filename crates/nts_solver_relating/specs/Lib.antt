pub mod Sides
pub mod Promises
pub mod RelatedPlaces
