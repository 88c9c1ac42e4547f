pub mod Obeying
pub mod Offering
pub mod Running
