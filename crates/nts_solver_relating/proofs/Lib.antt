pub mod GoalsLeft
