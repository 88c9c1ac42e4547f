-- Conditions of accesses, and the erased mode. They wait for hidden types in the evaluation: no call promises them yet.
pub mod Accessing
pub mod Erasing
