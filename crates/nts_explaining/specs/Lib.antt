pub mod Asking
pub mod Explaining
