mod ClosingLemmas
mod Finding
mod Inverting
mod KnowingLemmas
mod Mapping
mod OpeningLemmas
mod Reaching
mod Relabelling
