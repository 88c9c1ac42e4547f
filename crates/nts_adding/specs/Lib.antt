pub mod Putting
pub mod Walking
pub mod Replacing
pub mod Adding
pub mod Rigid
pub mod Equal
