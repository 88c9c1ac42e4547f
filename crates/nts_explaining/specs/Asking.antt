-- What asking the conditions of a candidate comes to.
use Rattle.std.specs.Prelude.{◌≡◌, ◌⊎◌, ℕ, ◌<◌, Some, None}
use Rattle.nts_certainty.specs.declared.certainty.Certainty.{Certainty}
use Rattle.nts_terms.specs.declared.handles.Goal.{Goal}
use Rattle.nts_explaining.specs.declared.conditions.Outcome.{Outcome}
use Rattle.nts_explaining.specs.declared.conditions.Outcome.TheVariants as outcome
use Rattle.nts_candidates.specs.declared.reasons.Reason.{Reason}
use Rattle.nts_candidates.specs.declared.reasons.Reason.TheVariants as reason

-- a condition that the outcome names is one of the first n
abbrev pub IsWithin : ℕ → Outcome → Type 0
IsWithin n outcome.Certain = Unit {0}
IsWithin n (outcome.Doubtful i y) = i < n
IsWithin n (outcome.Refused i) = i < n

-- the reason that an outcome gives, for a candidate that is so certain by itself
abbrev pub IsReasonOf : Certainty → Outcome → Reason → Type 0
IsReasonOf sure outcome.Certain r = (r ≡ reason.Leak) ⊎ (r ≡ reason.Holds sure)
IsReasonOf sure (outcome.Doubtful i y) r = (r ≡ reason.Leak) ⊎ ((g : Goal) × (r ≡ reason.Condition i g (Some y)))
IsReasonOf sure (outcome.Refused i) r = (g : Goal) × (r ≡ reason.Condition i g None)
