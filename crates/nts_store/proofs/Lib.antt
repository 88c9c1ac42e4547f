pub mod Escaping
pub mod Filling
pub mod Forming
pub mod Growing
pub mod Inserting
pub mod Levels
pub mod Pending
pub mod Reading
pub mod SharingExamples
pub mod WellBound
mod Indexing
