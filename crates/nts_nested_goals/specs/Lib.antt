pub mod Faults
pub mod Probing
pub mod Related
pub mod Unconstrained
