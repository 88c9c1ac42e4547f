-- Reasons whose terms are those of a store.
use Rattle.std.specs.Prelude.{List}
use Rattle.nts_certainty.specs.nts_model.specs.Terms.Trees.{Tree}
use Rattle.nts_certainty.specs.nts_terms.specs.Handles.{HoldsGoal}
use Rattle.nts_candidates.specs.declared.reasons.Reason.{Reason}
use Rattle.nts_candidates.specs.declared.reasons.Reason.TheVariants as reason

-- the condition that a reason names is a goal of the store
abbrev pub HoldsReason : List Tree → Reason → Type 0
HoldsReason ts (reason.Condition n g y) = HoldsGoal ts g
HoldsReason ts r = Unit {0}
