pub mod Folded
pub mod FoldedList
