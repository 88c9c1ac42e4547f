pub mod Chains
pub mod Each
pub mod LookedUp
pub mod Marking
pub mod Passed
pub mod RoundEnds
pub mod StackLater
pub mod Stacked
