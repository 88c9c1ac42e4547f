pub mod Reading
pub mod Steps
pub mod Values
pub mod HeadsKept
mod HeadExamples
pub mod Holding
pub mod Noting
pub mod Worded
