-- Contents of tables, worlds, what a table holds.
pub mod Contents
pub mod SubUnifying
pub mod Resolving
pub mod Levels
pub mod Worlds
pub mod RegionClasses
pub mod Solvable
pub mod Holding
pub mod Alike
pub mod Equations
pub mod Passing
pub mod Measuring
pub mod Tying
pub mod Recording
