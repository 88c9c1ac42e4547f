-- What a response says, and applying it.
pub mod Answering
pub mod Applying
pub mod Applied
pub mod Standing
pub mod Asked
pub mod Closing
pub mod Granting
pub mod Querying
pub mod AskedFrom
pub mod Initial
pub mod PositionSorts
pub mod ChosenClosed
pub mod ChosenLabels
