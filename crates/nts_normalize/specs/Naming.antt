-- Variables that a universe names, by the entries of a table.
use Rattle.std.specs.Prelude.{ℕ, ◌≤◌, Option, Some, None, IfSome, slice_get}
use Rattle.nts_model.specs.declared.labels.VariableKind.{VariableKind}
use Rattle.nts_unify.specs.Entries.{Entries}

-- the universe names the variable of that number, if the table has it
abbrev pub IsNamedBy : ℕ → Entries → Option (VariableKind × ℕ) → Type 0
IsNamedBy u e None = Unit {0}
IsNamedBy u e (Some v) = IfSome (slice_get e.variables v.1) (λ x. x.universe ≤ u)
