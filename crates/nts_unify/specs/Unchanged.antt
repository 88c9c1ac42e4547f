-- Terms of which nothing became known.
use Rattle.std.specs.Prelude.{◌≡◌, ℕ, Option, Some, None, slice_get}
use Rattle.nts_model.specs.declared.labels.VariableKind.{VariableKind}
use Rattle.nts_model.specs.Terms.Trees.{Tree, empty, more, node, variable_of}
use Rattle.nts_unify.specs.declared.contents.State.TheVariants.{Unset}
use Rattle.nts_unify.specs.declared.contents.Variable.{Variable}
use Rattle.nts_unify.specs.Entries.{Entries}

-- the table has the variable, of that kind, as a root without a value
pub record HasUnset (e : Entries) (n : ℕ) (k : VariableKind) : Type 0 where
  pub variable : Variable
  pub at : slice_get e.variables n ≡ Some variable
  pub of_kind : variable.kind ≡ k
  pub state : variable.state ≡ Unset

abbrev pub IsUnchangedAt : Entries → Option (VariableKind × ℕ) → Type 0
IsUnchangedAt e None = Unit {0}
IsUnchangedAt e (Some v) = HasUnset e v.1 v.0

-- a term that is a variable is its own root
abbrev pub IsUnchanged : Entries → Tree → Type 0
IsUnchanged e empty = Unit {0}
IsUnchanged e (more a b) = Unit {0}
IsUnchanged e (node l x) = IsUnchangedAt e (variable_of l)
