-- A new variable.
use Rattle.std.specs.Prelude.{◌≡◌, ℕ, Option, Some, None}
use Rattle.nts_model.specs.declared.labels.VariableKind.{VariableKind}
use Rattle.nts_unify.specs.declared.contents.State.TheVariants.{Unset}
use Rattle.nts_unify.specs.declared.contents.Variable.{Variable}
use Rattle.nts_unify.specs.Entries.{Entries, added}
use Rattle.nts_unify.specs.Roots.{IsSubRoot}

-- a variable of this universe of which nothing is known
abbrev pub unset_variable : VariableKind → ℕ → Variable
unset_variable k u = record { kind = k; universe = u; state = Unset; sub_link = None }

-- a variable of the current universe of which nothing is known
abbrev pub new_variable : Entries → VariableKind → Variable
new_variable c k = unset_variable k c.universe

-- one more variable; where another one is named, it leads to the root of that one's sub-unification class
abbrev pub IsAddedTo : Entries → Entries → Variable → Option ℕ → Type 0
IsAddedTo e f v None = f ≡ added e v
IsAddedTo e f v (Some n) = (r : ℕ) × IsSubRoot e n r × (f ≡ added e (record v { sub_link = Some r }))
