-- Variables behind which nothing hides, since they have no value.
use Rattle.std.specs.Prelude.{ℕ, Bool, true, false, Option, Some, None, slice_get}
use Rattle.nts_unify.specs.declared.contents.State.{State}
use Rattle.nts_unify.specs.declared.contents.State.TheVariants as state
use Rattle.nts_unify.specs.declared.contents.Variable.{Variable}
use Rattle.nts_unify.specs.Entries.{Entries}

abbrev pub is_unset : State → Bool
is_unset state.Unset = true
is_unset s = false

abbrev pub has_no_value : Option Variable → Bool
has_no_value None = false
has_no_value (Some v) = is_unset v.state

-- the number is none, or that of a variable without a value, which is no other one's either
abbrev pub is_bare : Entries → Option ℕ → Bool
is_bare e None = true
is_bare e (Some n) = has_no_value (slice_get e.variables n)
