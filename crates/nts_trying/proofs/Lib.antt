pub mod Labels
pub mod Sides
pub mod Trying
pub mod Constraining
pub mod Opened
pub mod Probed
pub mod Ran
pub mod BegunRelating
pub mod HeldRelating
mod RelatingExamples
pub mod Outcomes
pub mod Stepping
pub mod Entering
pub mod MergedResponses
pub mod Adding
pub mod AskedData
pub mod LeftOut
pub mod Instances
pub mod Unasked
pub mod Outliving
pub mod SubtypeGoals
pub mod AliasGoals
pub mod SaidEqual
pub mod UnsaidEqual
pub mod NormalGoals
pub mod Unequated
pub mod BegunInMode
pub mod LesserGoals
pub mod NormalizedGoals
pub mod RelatedAliases
mod AnsweredTypes
pub mod JoinedTypes
pub mod RelatedTypes
pub mod Owning
pub mod Judging
mod OutlivesExamples
mod OwningExamples
mod SubtypeExamples
