-- What a change of a table keeps.
use Rattle.std.specs.Prelude.{Contains, ◌≡◌, ◌≢◌, ℕ, ◌+◌, ◌≤◌, ◌<◌, List, [], ◌∷◌, length, Option, Some, None, Bool, true, false, ◌++◌}
use Rattle.nts_model.specs.declared.labels.VariableKind.{VariableKind}
use Rattle.nts_model.specs.declared.labels.VariableKind.TheVariants as kind
use Rattle.nts_model.specs.declared.labels.Leaf.TheVariants as leaf
use Rattle.nts_model.specs.declared.labels.Label.{Label}
use Rattle.nts_model.specs.declared.labels.Label.TheVariants as label
use Rattle.nts_model.specs.Terms.Trees.{Tree, IsClosed, variable_of}
use Rattle.nts_model.specs.Tables.Contents.{Content, Slot, SlotState, unset, link, state_of, kind_at, Recorded}
use Rattle.nts_model.specs.Tables.Resolving.{Knows, resolved}
use Rattle.nts_model.specs.Tables.SubUnifying.{JoinsSubRoots}

-- the variable of a region
abbrev pub region_number : VariableKind → ℕ → Option ℕ
region_number kind.Region n = Some n
region_number k n = None

abbrev pub region_of_variable : Option (VariableKind × ℕ) → Option ℕ
region_of_variable None = None
region_of_variable (Some v) = region_number v.0 v.1

abbrev pub region_variable : Label → Option ℕ
region_variable l = region_of_variable (variable_of l)

-- a region that is not bound: a variable, or another one
abbrev pub is_region_kind : VariableKind → Bool
is_region_kind kind.Region = true
is_region_kind k = false

abbrev pub is_free_region : Label → Bool
is_free_region (label.Leaf (leaf.Variable k n)) = is_region_kind k
is_free_region (label.Leaf (leaf.Region r)) = true
is_free_region l = false

-- how many variables that are no regions have no value
abbrev pub one_unset : SlotState → ℕ
one_unset unset = 1
one_unset s = 0

abbrev pub unset_of : VariableKind → SlotState → ℕ
unset_of kind.Region s = 0
unset_of k s = one_unset s

abbrev pub unset_count : List Slot → ℕ
unset_count [] = 0
unset_count (v ∷ vs) = unset_of v.kind v.state + unset_count vs

-- a constraint that the leak check sees, between closed terms
pub record IsSeen (x : Recorded) : Type 0 where
  pub visible : x.is_visible ≡ true
  pub left : IsClosed x.left
  pub right : IsClosed x.right

-- the constraints that were, in order, and then some that are seen
pub data AddsVisible (xs : List Recorded) : List Recorded → Type 0 where
  nothing_more : AddsVisible xs xs
  one_more : {ys : List Recorded} (x : Recorded) → AddsVisible xs ys → IsSeen x → AddsVisible xs (ys ++ x ∷ [])

-- no bound variable escapes from a side of the table's constraints
pub record HasClosedSides (c : Content) : Type 0 where
  pub left : (x : Recorded) → Contains c.constraints x → IsClosed x.left
  pub right : (x : Recorded) → Contains c.constraints x → IsClosed x.right

-- the table has its variables and its universes, and may have more; its classes of sub-unification are those that it had,
-- but for variables that became one; what was recorded since is visible for the leak check, and between closed terms
pub record IsLater (c d : Content) : Type 0 where
  pub more : length c.slots ≤ length d.slots
  pub grows : c.universe ≤ d.universe
  pub kinds : (n : ℕ) (k : VariableKind) → kind_at c n ≡ Some k → kind_at d n ≡ Some k
  pub subs : JoinsSubRoots c d
  pub visible : AddsVisible c.constraints d.constraints

-- what the table knew of trees, it knows no more and no less of; a new variable that is no region leads to another one
pub record KeepsKnowing (c d : Content) : Type 0 where
  pub later : IsLater c d
  pub states : (n : ℕ) → n < length c.slots → kind_at c n ≢ Some kind.Region → state_of d n ≡ state_of c n
  pub trees : (t : Tree) → Knows c t → resolved d t ≡ resolved c t
  pub unset_kept : unset_count d.slots ≡ unset_count c.slots
  pub news : (n : ℕ) (k : VariableKind) → length c.slots ≤ n → kind_at d n ≡ Some k → k ≢ kind.Region → (m : ℕ) × (state_of d n ≡ Some (link m))
