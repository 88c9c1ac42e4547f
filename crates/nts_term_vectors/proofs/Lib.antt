pub mod FoldedSame
pub mod Nested
