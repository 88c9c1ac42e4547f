pub mod Each
pub mod EqualLemmas
pub mod FitLemmas
pub mod EntriesTold
pub mod Identities
pub mod Positioned
pub mod StateFits
