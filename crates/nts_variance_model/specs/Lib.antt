pub mod Variances
