pub mod Handles
pub mod Kinds
pub mod Signatures
pub mod Rest
pub mod ConstTypes
pub mod Modes
pub use Rattle.nts_model
pub use Rattle.nts_store
