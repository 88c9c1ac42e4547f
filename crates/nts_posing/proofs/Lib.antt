pub mod NewPosed
pub mod PosedMore
