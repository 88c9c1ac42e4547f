-- Variables and universes that a table has, and the places of a row.
use Rattle.std.specs.Prelude.{◌≡◌, ℕ, zero, suc, Option, Some, None, slice_get}
use Rattle.nts_model.specs.declared.labels.VariableKind.{VariableKind}
use Rattle.nts_model.specs.Terms.Trees.{Tree, empty, more, node, variable_of}
use Rattle.nts_unify.specs.declared.contents.Variable.{Variable}
use Rattle.nts_unify.specs.Entries.{Entries}
use Rattle.nts_model.specs.declared.labels.Label.{Label}
use Rattle.nts_model.specs.Terms.Placeholders.{leaf_level, CanName}

-- the table has the variable, of that kind
pub record HasVariable (e : Entries) (k : VariableKind) (n : ℕ) : Type 0 where
  pub variable : Variable
  pub at : slice_get e.variables n ≡ Some variable
  pub of_kind : variable.kind ≡ k

abbrev pub HasNamed : Entries → Option (VariableKind × ℕ) → Type 0
HasNamed e None = Unit {0}
HasNamed e (Some v) = HasVariable e v.0 v.1

-- the table has the variable that a label names, and its current universe names the placeholder that it is
pub record IsNamed (e : Entries) (l : Label) : Type 0 where
  pub variable : HasNamed e (variable_of l)
  pub level : CanName e.universe (leaf_level l)

-- the places of a row from one on
abbrev pub row_from : ℕ → Tree → Tree
row_from zero r = r
row_from (suc i) empty = empty
row_from (suc i) (more a b) = row_from i b
row_from (suc i) (node l x) = empty
