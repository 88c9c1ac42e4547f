pub mod Loose
pub mod Walked
pub mod Known
pub mod Added
pub mod AddingExamples
pub mod NewVariables
pub mod Rigidly
pub mod Relating
mod RigidExamples
pub mod EqualToNew
