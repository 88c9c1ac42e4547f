-- Numbering of leaves, and equal canonical forms.
pub mod Positioned
pub mod Numbering
pub mod Moving
pub mod PositionKinds
pub mod CanonicalForms
