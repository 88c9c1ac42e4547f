pub mod Answers
pub mod Fitting
pub mod Found
pub mod Growing
pub mod Meaning
pub mod Pieces
pub mod Printing
pub mod Statuses
