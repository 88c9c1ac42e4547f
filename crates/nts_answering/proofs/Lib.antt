pub mod Found
pub mod KindLists
pub mod Rows
pub mod StateSteps
