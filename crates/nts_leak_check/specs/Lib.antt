pub mod Leaking
pub mod LeakLaws
