pub mod Places
pub mod Moved
pub mod Standing
pub mod Sorted
pub mod SameModes
pub mod Binders
pub mod Varying
