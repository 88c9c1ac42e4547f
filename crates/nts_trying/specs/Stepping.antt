-- Goals that were added, and what evaluating them in steps leaves.
use Rattle.std.specs.Prelude.{◌⊎◌, ℕ, ◌+◌, List, [], ◌∷◌, ◌++◌, All}
use Rattle.nts_model.specs.Terms.Trees.{Tree}
use Rattle.nts_model.specs.Lists.{Among}
use Rattle.nts_certainty.specs.declared.certainty.Certainty.{Certainty}
use Rattle.nts_certainty.specs.declared.certainty.Certainty.TheVariants as certainty
use Rattle.nts_certainty.specs.declared.sources.GoalSource.{GoalSource}
use Rattle.nts_terms.specs.declared.handles.Goal.{Goal}
use Rattle.nts_table.specs.Tables.{Table}
use Rattle.nts_meaning.specs.Evaluation.{IsPosed, asked_terms}
use Rattle.nts_trying.specs.declared.steps.AvailableDepth.{AvailableDepth}
use Rattle.nts_trying.specs.declared.steps.AvailableDepth.TheVariants as available

-- goals of a store and a table, each with its source
abbrev pub ArePosed : List Tree → Table → List (GoalSource × Goal) → Type 0
ArePosed ts t gs = All (λ g. IsPosed ts t g.1) gs

-- the terms of goals
abbrev pub terms_of : List Tree → List (GoalSource × Goal) → List Tree
terms_of ts [] = []
terms_of ts (g ∷ gs) = asked_terms ts g.1 ++ terms_of ts gs

-- the goals that are left of those that were there, in their order, each as often as it was
pub data AreLeft : List (GoalSource × Goal) → List (GoalSource × Goal) → Type 0 where
  none_left : AreLeft [] []
  is_left : {gs left : List (GoalSource × Goal)} (g : GoalSource × Goal) → AreLeft gs left → AreLeft (g ∷ gs) (g ∷ left)
  is_done : {gs left : List (GoalSource × Goal)} (g : GoalSource × Goal) → AreLeft gs left → AreLeft (g ∷ gs) left

-- and of each goal that is not left, P holds
abbrev pub AreSettled : (GoalSource × Goal → Type 0) → List (GoalSource × Goal) → List (GoalSource × Goal) → Type 0
AreSettled P gs left = (g : GoalSource × Goal) → Among gs g → Among left g ⊎ P g

-- a goal is left if its answer is not certain
abbrev pub left_after : List (GoalSource × Goal) → GoalSource × Goal → Certainty → List (GoalSource × Goal)
left_after gs g certainty.Yes = gs
left_after gs g (certainty.Maybe i) = gs ++ g ∷ []

-- how many inputs may stand on the stack below the root of what is asked there
abbrev pub bound_of : AvailableDepth → ℕ
bound_of (available.Root n) = n + 1
bound_of (available.Below n) = n
