pub mod Marking
pub mod MarkerLaws
pub mod Circling
pub mod CircularLaws
pub mod Judgement
pub mod JudgeLaws
pub mod Answering
pub mod AnsweringLaws
