pub mod Admitting
pub mod Asking
pub mod KeptStalled
mod RoundExamples
pub mod Rounds
mod StalledExamples
mod StillStalledExamples
pub mod TwoChildren
