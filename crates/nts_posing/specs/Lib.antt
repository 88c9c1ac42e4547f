pub mod Posed
