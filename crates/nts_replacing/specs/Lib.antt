pub mod Replacement
pub mod Under
