-- The content of a table of inference variables.
use Rattle.std.specs.Prelude.{ℕ, List, [], ◌∷◌, ◌++◌, slice_get, slice_set, Bool, Option, Some, None}
use Rattle.nts_model.specs.declared.labels.VariableKind.{VariableKind}
use Rattle.nts_model.specs.declared.labels.Relation.{Relation}
use Rattle.nts_model.specs.Terms.Trees.{Tree}

-- what is known of a variable: nothing, that it is one with a variable of a lower number, or its value
pub data SlotState : Type 0 where
  unset : SlotState
  link : ℕ → SlotState
  known : Tree → SlotState

-- a variable: its kind, the universe that bounds its value, its state, and the variable of a lower
-- number with which its sub-unification class was joined
pub record Slot : Type 0 where
  pub kind : VariableKind
  pub universe : ℕ
  pub state : SlotState
  pub sub_link : Option ℕ

-- a region constraint: its two sides are one region, or the left outlives the right
pub record Recorded : Type 0 where
  pub relation : Relation
  pub left : Tree
  pub right : Tree
  pub is_visible : Bool

-- the variables, those that were bound in the order of binding, the current universe, and the
-- constraints in the order of recording
pub record Content : Type 0 where
  pub slots : List Slot
  pub order : List ℕ
  pub universe : ℕ
  pub constraints : List Recorded

abbrev pub map_slot : {A : Type 0} → (Slot → A) → Option Slot → Option A
map_slot f None = None
map_slot f (Some v) = Some (f v)

-- one field of a variable, if the table has the variable
abbrev pub state_of : Content → ℕ → Option SlotState
state_of c n = map_slot (λ v. v.state) (slice_get c.slots n)

abbrev pub universe_of : Content → ℕ → Option ℕ
universe_of c n = map_slot (λ v. v.universe) (slice_get c.slots n)

-- the kind of a variable, if the table has the variable
abbrev pub kind_at : Content → ℕ → Option VariableKind
kind_at c n = map_slot (λ v. v.kind) (slice_get c.slots n)

abbrev pub sub_link_of : Content → ℕ → Option (Option ℕ)
sub_link_of c n = map_slot (λ v. v.sub_link) (slice_get c.slots n)

-- one more variable; another state of one; a variable that is bound; one more constraint
abbrev pub with_slot : Content → Slot → Content
with_slot c v = record c { slots = c.slots ++ v ∷ [] }

abbrev pub changed : Content → ℕ → Slot → Content
changed c n v = record c { slots = slice_set c.slots n v }

abbrev pub bound_to : Content → ℕ → Slot → Content
bound_to c n v = record c { slots = slice_set c.slots n v; order = c.order ++ n ∷ [] }

abbrev pub with_constraint : Content → Recorded → Content
with_constraint c x = record c { constraints = c.constraints ++ x ∷ [] }

abbrev pub in_universe : Content → ℕ → Content
in_universe c u = record c { universe = u }
