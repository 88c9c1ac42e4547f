pub mod Asked
pub mod Named
pub mod Stepping
