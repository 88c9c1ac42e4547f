-- The entries of a table, and how one change is undone.
use Rattle.std.specs.Prelude.{◌≡◌, ℕ, List, [], ◌∷◌, ◌++◌, length, slice_set, take, ◌-◌}
use Rattle.nts_unify.specs.declared.contents.Variable.{Variable}
use Rattle.nts_unify.specs.declared.contents.UndoLog.{UndoLog}
use Rattle.nts_unify.specs.declared.contents.UndoLog.TheVariants.{Added, Changed, Bound, Moved, Constrained, Registered, Replaced, Duplicated}
use Rattle.nts_unify.specs.declared.contents.Constraint.{Constraint}
use Rattle.nts_unify.specs.declared.contents.HiddenType.{HiddenType}

-- hidden types: those that are looked up, one for an alias, in the order of registering; and the duplicates in the
-- order of adding, whose aliases have another type there
pub record HiddenTypes : Type 0 where
  pub lookup : List HiddenType
  pub duplicates : List HiddenType

-- the variables, those that were bound in the order of binding, the current universe, the
-- constraints in the order of recording, and the hidden types; their terms stand in a store
pub record Entries : Type 0 where
  pub variables : List Variable
  pub order : List ℕ
  pub universe : ℕ
  pub constraints : List Constraint
  pub hidden : HiddenTypes

-- what snapshots restore: the entries, and those at the snapshots that are open, the first snapshot's first
pub record Inner : Type 0 where
  pub entries : Entries
  pub saved : List Entries

-- the snapshots, the current universe and the hidden types stay
pub record KeepsHidden (old new : Inner) : Type 0 where
  pub saved : new.saved ≡ old.saved
  pub universe : new.entries.universe ≡ old.entries.universe
  pub hidden : new.entries.hidden ≡ old.entries.hidden

-- the list without its last element
abbrev pub front : {A : Type 0} → List A → List A
front xs = take (length xs - 1) xs

-- the entries with one more variable
abbrev pub added : Entries → Variable → Entries
added c v = record c { variables = c.variables ++ v ∷ [] }

abbrev pub with_variable : Entries → ℕ → Variable → Entries
with_variable c n v = record c { variables = slice_set c.variables n v }

abbrev pub bound : Entries → ℕ → Variable → Entries
bound c n v = record c { variables = slice_set c.variables n v; order = c.order ++ n ∷ [] }

abbrev pub moved : Entries → ℕ → Entries
moved c u = record c { universe = u }

abbrev pub constrained : Entries → Constraint → Entries
constrained c x = record c { constraints = c.constraints ++ x ∷ [] }

-- one more hidden type; another one in the place of an older
abbrev pub registered : Entries → HiddenType → Entries
registered c h = record c { hidden = record c.hidden { lookup = c.hidden.lookup ++ h ∷ [] } }

abbrev pub with_hidden : Entries → ℕ → HiddenType → Entries
with_hidden c n h = record c { hidden = record c.hidden { lookup = slice_set c.hidden.lookup n h } }

-- one more duplicate
abbrev pub duplicated : Entries → HiddenType → Entries
duplicated c h = record c { hidden = record c.hidden { duplicates = c.hidden.duplicates ++ h ∷ [] } }

abbrev pub undone : UndoLog → Entries → Entries
undone Added c = record c { variables = front c.variables }
undone (Changed n v) c = with_variable c n v
undone (Bound n v) c = record c { variables = slice_set c.variables n v; order = front c.order }
undone (Moved u) c = moved c u
undone Constrained c = record c { constraints = front c.constraints }
undone Registered c = record c { hidden = record c.hidden { lookup = front c.hidden.lookup } }
undone (Replaced n h) c = with_hidden c n h
undone Duplicated c = record c { hidden = record c.hidden { duplicates = front c.hidden.duplicates } }

-- the last change is undone first
abbrev pub all_undone : List UndoLog → Entries → Entries
all_undone [] c = c
all_undone (x ∷ xs) c = undone x (all_undone xs c)
