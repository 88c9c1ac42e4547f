pub mod Deciding
pub mod Facts
pub mod Faring
pub mod FirstTables
pub mod Queries
