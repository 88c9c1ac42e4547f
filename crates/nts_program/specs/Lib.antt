pub mod Obeying
pub mod Proving
pub mod Running
pub use Rattle.nts_declaring
