-- Labels that pairs of trees, and the steps of a walk, may have.
use Rattle.std.specs.Prelude.{◌≡◌, Bool, true, List, [], ◌∷◌}
use Rattle.nts_model.specs.declared.labels.ListHead.TheVariants as list
use Rattle.nts_model.specs.declared.labels.Label.{Label}
use Rattle.nts_model.specs.declared.labels.Label.TheVariants as label
use Rattle.nts_model.specs.Terms.Trees.{Tree, empty}
use Rattle.nts_model.specs.Tables.Passing.{PassesVariables, TreePasses}
use Rattle.nts_variance_model.specs.Variances.Forms.{over}
use Rattle.nts_variance_model.specs.Variances.Relations.{Relating}
use Rattle.nts_variance.specs.Steps.{WalkStep, enter, build, owe}

-- a test that variables pass, and lists of arguments
pub record PassesRows (P : Label → Bool) : Type 0 where
  pub variables : PassesVariables P
  pub lists : P (label.List list.Args) ≡ true

-- each label of both sides passes it
abbrev pub PairsPass : (Label → Bool) → List Relating → Type 0
PairsPass P [] = Unit {0}
PairsPass P (p ∷ ps) = TreePasses P p.left × TreePasses P p.right × PairsPass P ps

abbrev pub TreesPass : (Label → Bool) → List Tree → Type 0
TreesPass P [] = Unit {0}
TreesPass P (t ∷ ts) = TreePasses P t × TreesPass P ts

-- .. of what is to be entered, built and owed
abbrev pub StepPasses : (Label → Bool) → WalkStep → Type 0
StepPasses P (enter v q t) = TreePasses P t
StepPasses P (build F n) = TreePasses P (over F empty)
StepPasses P (owe v t) = TreePasses P t

abbrev pub StepsPass : (Label → Bool) → List WalkStep → Type 0
StepsPass P [] = Unit {0}
StepsPass P (x ∷ xs) = StepPasses P x × StepsPass P xs
