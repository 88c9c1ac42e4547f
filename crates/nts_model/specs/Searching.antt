-- The stack of a search.
pub mod Stacks
pub mod Driving
