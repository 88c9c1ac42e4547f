pub mod FoldLaws
pub mod Folding
