mod AssumedExamples
pub mod ClauseRules
pub mod ResultOffers
pub mod RowOffers
