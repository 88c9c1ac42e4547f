-- Goals that hold aliases, goals of the engine's own kinds, and relating by settled proofs. What is said of goals that are left open
-- waits: no call promises it yet.
pub mod ByParts
pub mod ByRelating
pub mod ChosenValues
pub mod Loose
pub mod PosedHolds
pub mod BuiltIn
pub mod ByEngine
pub mod ByOwnWay
pub mod WithCandidate
pub mod RelatingCandidate
pub mod SettledGoals
pub mod RelatedRows
pub mod OpenedRules
pub mod OpenedWith
pub mod OpenedRelating
pub mod Renormalized
pub mod Unfolding
pub mod Unfolded
pub mod RelatedByProofs
pub mod Listing
pub mod Weakening
pub mod TellingAliases
