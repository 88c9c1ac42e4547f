pub mod Collecting
pub mod LeafLists
pub mod Positions
