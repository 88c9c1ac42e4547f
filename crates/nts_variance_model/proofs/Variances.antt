-- Relating with aliases and variances.
pub mod Meeting
pub mod Settling
pub mod Alongside
pub mod SettleRows
pub mod Generalizing
pub mod Reducing
pub mod AnsweredGoals
pub mod Forms
pub mod Leaving
pub mod Tied
