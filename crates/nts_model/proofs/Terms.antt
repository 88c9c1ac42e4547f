-- Trees alone: labels, replacing leaves, renamings, what binders bind.
pub mod Variables
pub mod Unpositioned
pub mod Substituting
pub mod Composing
pub mod Scoping
pub mod Identified
pub mod Listed
pub mod Renamings
pub mod Imaging
pub mod Closed
