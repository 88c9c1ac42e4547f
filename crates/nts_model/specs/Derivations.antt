-- Sequents, rules, ranked proofs, handlers.
pub mod Related
pub mod Sequents
pub mod Rules
pub mod Proofs
pub mod Handlers
pub mod Proving
