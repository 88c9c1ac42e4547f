-- New variables for a list of sorts.
use Rattle.std.specs.Prelude.{◌≡◌, ℕ, suc, List, [], ◌∷◌, length, Option, Some}
use Rattle.nts_model.specs.declared.labels.Sort.{Sort}
use Rattle.nts_model.specs.declared.labels.Sort.TheVariants as sort
use Rattle.nts_model.specs.declared.labels.VariableKind.{VariableKind}
use Rattle.nts_model.specs.declared.labels.VariableKind.TheVariants as kind
use Rattle.nts_model.specs.Terms.Trees.{Tree, empty, more, NodeKind, of_sort, variable_tree}
use Rattle.nts_unify.specs.Entries.{Entries, added}
use Rattle.nts_table.specs.Making.{new_variable}

abbrev pub variable_kind : Sort → VariableKind
variable_kind sort.Ty = kind.Ty
variable_kind sort.Region = kind.Region
variable_kind sort.Const = kind.Const

-- the entries with one new variable for each sort, in order
abbrev pub with_fresh : Entries → List Sort → Entries
with_fresh e [] = e
with_fresh e (s ∷ ss) = with_fresh (added e (new_variable e (variable_kind s))) ss

-- variables of these sorts with consecutive numbers
abbrev pub fresh_row : ℕ → List Sort → Tree
fresh_row n [] = empty
fresh_row n (s ∷ ss) = more (variable_tree (variable_kind s) n) (fresh_row (suc n) ss)

-- one new variable of the sort of a term of that kind
pub record IsFreshLike (k : Option NodeKind) (t : Tree) (e f : Entries) : Type 0 where
  pub sort : Sort
  pub is : k ≡ Some (of_sort sort)
  pub tree : t ≡ variable_tree (variable_kind sort) (length e.variables)
  pub entries : f ≡ added e (new_variable e (variable_kind sort))
