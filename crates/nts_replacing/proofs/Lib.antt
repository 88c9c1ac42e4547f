pub mod Replacing
pub mod Small
pub mod Walking
