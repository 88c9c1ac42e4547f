pub use Rattle.nts_relating
