-- Relating with aliases and variances.
pub mod Judging
pub mod Relations
pub mod SettledProofs
pub mod AnsweredGoals
pub mod RelatingBy
pub mod Listing
pub mod Leaving
pub mod Forms
