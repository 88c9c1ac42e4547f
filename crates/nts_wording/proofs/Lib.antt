pub mod Stores
pub mod Fitted
pub mod Meant
pub mod Places
pub mod Rules
pub mod Growths
pub mod Printed
pub mod Writing
mod Answered
mod MeaningExamples
mod FittingExamples
pub mod Lines
pub mod Telling
