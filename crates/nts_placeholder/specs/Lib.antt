pub mod Closing
pub mod ClosingLaws
pub mod Escaping
pub mod Inverse
pub mod Knowing
pub mod Opening
pub mod OpeningLaws
pub mod Universes
