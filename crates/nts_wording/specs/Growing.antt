-- Writers whose bytes stay.
use Rattle.std.specs.Prelude.{ℕ, List, ◌++◌, Option, codes}
use Rattle.std.specs.Fmt.{decimal}
use Rattle.nts_text.specs.Reasons.{words_of}
use Rattle.nts_text.specs.declared.refusals.Refusal.{Refusal}
use Rattle.std.specs.Io.KnownBytes.{Appends}
use Rattle.nts_wording.specs.declared.status.Stop.{Stop}
use Rattle.nts_wording.specs.declared.status.Stop.TheVariants as stop

-- known bytes stay at the beginning
pub record Begins (old new : Option (List ℕ)) : Type 0 where
  pub written : List ℕ
  pub appends : Appends old new written

-- the line that says why a line is refused
abbrev pub refusal_line : ℕ → Refusal → List ℕ
refusal_line number r = codes "line " ++ decimal number ++ codes ": " ++ words_of r ++ codes "\n"

-- where a line with this number is refused, the line that says why is written
abbrev pub IsStopTold : Option (List ℕ) → Option (List ℕ) → ℕ → Stop → Type 0
IsStopTold old new number (stop.Refused r) = Appends old new (refusal_line number r)
IsStopTold old new number s = Unit {0}
