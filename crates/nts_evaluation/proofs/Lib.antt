mod Failing
mod Fast
mod FactQueries
pub mod FactRoots
mod FactTrials
pub mod Coherence
mod Leaking
mod Serving
mod OwnGoals
mod AnswerExamples
pub mod Deciding
mod DecidedSteps
mod AskedSteps
pub mod PosedSteps
mod PutCandidates
mod Entered
pub mod Counted
mod DecidedCandidates
mod DecidedTrials
mod DecidedQueries
mod DecidedGoals
mod DecidedRounds
mod DecidedExamples
mod FactLeaves
pub mod Skipped
mod SkippedExamples
mod SubtypesLeft
mod NormalLeft
