-- Responses, and applying them.
pub mod Responses
pub mod Applying
