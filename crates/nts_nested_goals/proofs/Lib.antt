pub mod Ended
pub mod Relates
pub mod Spared
mod UnconstrainedExamples
