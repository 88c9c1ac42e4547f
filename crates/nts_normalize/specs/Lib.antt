pub mod Calling
pub mod Normalizing
pub mod Naming
pub mod Walking
