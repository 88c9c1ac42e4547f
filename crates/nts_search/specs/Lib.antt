pub mod Ending
pub mod Indexed
pub mod Initial
pub mod Kinds
pub mod Merging
pub mod Searching
