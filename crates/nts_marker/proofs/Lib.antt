pub mod Circles
pub mod Fairness
mod AnsweringExamples
