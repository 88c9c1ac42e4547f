pub mod Respecting
pub mod News
mod LeakExamples
