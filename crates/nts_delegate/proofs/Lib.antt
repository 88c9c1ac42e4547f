mod AliasExamples
pub mod AliasFound
pub mod AliasSingle
pub mod AliasTables
pub mod Found
pub mod Indexing
pub mod Merging
pub mod Offering
pub mod Over
pub mod Ready
pub mod Relevance
pub mod Testing
pub mod Traits
