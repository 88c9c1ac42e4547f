-- What is refuted in coherence, by the calls at the root (`none`, `keeps`).
pub mod Refutation
