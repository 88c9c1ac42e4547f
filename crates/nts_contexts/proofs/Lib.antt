pub mod Frames
pub mod Begun
pub mod Handed
pub mod Normalized
mod NormalExamples
mod AnsweredExamples
