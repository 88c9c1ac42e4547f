-- Inputs and their canonical forms.
pub mod Numbered
pub mod Inputs
