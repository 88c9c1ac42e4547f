pub mod Rounds
pub mod Stalled
pub mod Stalling
