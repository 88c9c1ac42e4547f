pub mod Asking
pub mod Justifying
pub mod Obeyed
pub mod Runs
