pub mod CountLemmas
pub mod WordLemmas
mod PredicateExamples
pub mod InputLemmas
pub mod TokenLemmas
pub mod NumberLemmas
pub mod SortLemmas
pub mod NodeLemmas
pub mod SpellingLemmas
pub mod NameLemmas
pub mod ParamLemmas
pub mod ComeLemmas
pub mod FaultLemmas
pub mod ArrowLemmas
pub mod ReadingLemmas
