pub mod Does
pub mod Offered
pub mod Lining
pub mod Staying
pub mod Runs
pub mod Telling
