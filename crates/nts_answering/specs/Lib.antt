pub mod Kinds
pub use Rattle.nts_canonicalizer
