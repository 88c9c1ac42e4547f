pub mod Contexts
pub mod Promises
pub mod Normalizing
