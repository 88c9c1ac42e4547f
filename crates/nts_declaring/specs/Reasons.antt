-- How the reasons of a goal are written.
use Rattle.std.specs.Prelude.{◌≡◌, ◌⊎◌, ℕ, ◌<◌, List, [], ◌∷◌, ◌++◌, length, Option, None, Some, codes}
use Rattle.std.specs.Fmt.{decimal}
use Rattle.std.specs.Io.KnownBytes.{Appends}
use Rattle.nts_certainty.specs.declared.certainty.Certainty.{Certainty}
use Rattle.nts_certainty.specs.declared.certainty.Certainty.TheVariants as certainty
use Rattle.nts_certainty.specs.declared.certainty.MaybeCause.{MaybeCause}
use Rattle.nts_certainty.specs.declared.certainty.MaybeCause.TheVariants as cause
use Rattle.nts_candidates.specs.declared.reasons.Reason.{Reason}
use Rattle.nts_candidates.specs.declared.reasons.Reason.TheVariants as reason
use Rattle.nts_declaring.specs.declared.origins.Origin.{Origin}
use Rattle.nts_declaring.specs.declared.origins.Origin.TheVariants as origin
use Rattle.nts_declaring.specs.Origins.{origins_of}

-- how it is written where a candidate comes from
abbrev pub origin_words : Origin → List ℕ
origin_words origin.Environment = codes "  environment: "
origin_words (origin.Line n) = codes "  line " ++ decimal n ++ codes ": "

-- how a doubt is written
abbrev pub doubt_words : MaybeCause → List ℕ
doubt_words cause.Ambiguity = codes "maybe ambiguity"
doubt_words (cause.Overflow a b) = codes "maybe overflow"

-- what is said of a condition that is so certain, or has no solution
abbrev pub outcome_words : Option Certainty → List ℕ
outcome_words None = codes "no"
outcome_words (Some certainty.Yes) = codes "yes"
outcome_words (Some (certainty.Maybe info)) = doubt_words info.cause

-- what is said of a candidate for this reason: of a condition, what became of it
abbrev pub reason_words : Reason → List ℕ
reason_words (reason.Equation n) = codes "does not fit"
reason_words (reason.Condition n g y) = outcome_words y
reason_words reason.Leak = codes "leaks"
reason_words (reason.Holds certainty.Yes) = codes "holds"
reason_words (reason.Holds (certainty.Maybe info)) = doubt_words info.cause

-- what stands before that: some text for the condition that the reason names, if it names one
abbrev pub IsAskedText : Reason → List ℕ → Type 0
IsAskedText (reason.Condition n g y) text = (asked : List ℕ) × (text ≡ asked ++ codes " ")
IsAskedText r text = text ≡ []

-- the line of a reason whose candidate comes from there
abbrev pub IsReasonLine : Origin → Reason → List ℕ → Type 0
IsReasonLine o r text = (asked : List ℕ) × IsAskedText r asked × (text ≡ origin_words o ++ asked ++ reason_words r ++ codes "\n")

-- the lines of reasons, one behind the other
abbrev pub AreReasonLines : List Origin → List Reason → List ℕ → Type 0
AreReasonLines [] [] text = text ≡ []
AreReasonLines (o ∷ os) (r ∷ rs) text = (x y : List ℕ) × IsReasonLine o r x × AreReasonLines os rs y × (text ≡ x ++ y)
AreReasonLines os rs text = ⊥

-- what is written of the reasons of a goal, if the impls of its trait stand on these lines: nothing where there are too few, since
-- no candidate answers such a goal; and else a line for each, which names the line that its candidate comes from
abbrev pub IsReasonsText : List ℕ → List Reason → List ℕ → Type 0
IsReasonsText lines rs text = ((length rs < length lines) × (text ≡ [])) ⊎ AreReasonLines (origins_of (length rs) lines) rs text

-- that is written
abbrev pub IsReasonsPut : List ℕ → List Reason → Option (List ℕ) → Option (List ℕ) → Type 0
IsReasonsPut lines rs before after = (text : List ℕ) × IsReasonsText lines rs text × Appends before after text
