pub mod Accesses
pub mod Certainties
pub mod Deciding
pub use Rattle.nts_terms.specs.nts_model
pub use Rattle.nts_terms.specs.nts_store
pub use Rattle.nts_terms
pub use Rattle.nts_theory
