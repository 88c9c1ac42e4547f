pub mod Foreign
pub mod HeldReasons
pub mod Offered
pub use Rattle.nts_certainty
pub use Rattle.nts_certainty.specs.nts_theory
