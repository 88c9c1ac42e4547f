pub mod Derivations
pub mod Responses
pub mod Searching
pub mod Refutation
pub mod Aliases
pub mod Erased
pub mod Examples
