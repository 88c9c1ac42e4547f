pub mod Growing
mod Clean
mod Likeness
mod Fixed
mod Nodes
mod Pairs
mod Runs
pub mod Passes
mod Turns
mod Leaves
mod PartLemmas
mod Debts
pub mod Dues
mod Alone
mod Counting
mod CountedPieces
pub mod VaryTurns
mod Refusing
mod Owing
mod Pushing
mod Pieces
mod Looks
mod Bound
pub mod Takes
mod Refusals
mod Sides
mod Pairing
mod Underway
mod Calls
mod DueCalls
mod MetGoals
mod Standing
mod Lessening
mod Paying
mod Equalled
mod Joining
mod Onward
mod Exact
mod DueHeads
pub mod GoalLemmas
mod Arguments
pub mod SubRoots
pub mod Founding
pub mod PlainTerms
pub mod Plainly
mod Bareness
mod DueExamples
mod FoundingExamples
