-- Proofs that are, and that are not.
pub mod InputExamples
pub mod ProofExamples
pub mod TermExamples
pub mod AnswerExamples
pub mod StackExamples
pub mod ErasingExamples
pub mod OpenGoalExample
pub mod ToldExamples
pub mod AliasExamples
mod PosingExamples
mod EqualExamples
pub mod JudgedExamples
pub mod SubtypingExamples
pub mod RecordingExamples
pub mod RefutationExamples
pub mod SolutionExamples
pub mod PlainProofExamples
