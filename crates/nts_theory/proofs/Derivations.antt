-- Rules, derivations and ranked proofs.
pub mod Monotone
pub mod Flattening
pub mod ClosedStatements
pub mod ProofInstances
pub mod ProvedLater
pub mod Served
pub mod Relating
pub mod ByCandidate
pub mod Assuming
pub mod Owing
pub mod FromCandidate
pub mod Rooted
pub mod FastAnswers
