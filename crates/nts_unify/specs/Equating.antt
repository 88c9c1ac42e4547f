-- Two regions made equal.
use Rattle.std.specs.Prelude.{◌≡◌, ◌⊎◌, ℕ, min, max, List, Option, Some, None, Bool, slice_get}
use Rattle.nts_model.specs.declared.labels.Relation.TheVariants as relation
use Rattle.nts_model.specs.Terms.Trees.{Tree, empty, more, node}
use Rattle.nts_terms.specs.nts_store.specs.declared.nodes.NodeId.{NodeId}
use Rattle.nts_terms.specs.nts_store.specs.Growth.{tree_at}
use Rattle.nts_unify.specs.declared.contents.State.TheVariants.{Link}
use Rattle.nts_unify.specs.declared.contents.Variable.{Variable}
use Rattle.nts_unify.specs.Entries.{Entries, with_variable}
use Rattle.nts_unify.specs.Roots.{IsRoot}
use Rattle.nts_unify.specs.Changing.{region_variable}
use Rattle.nts_unify.specs.Recording.{Records}

-- two roots become one: the lower number, in the lower universe
pub record RegionsLinked (e f : Entries) (r s : ℕ) : Type 0 where
  pub apart : r ≡ s → ⊥
  pub low : Variable
  pub high : Variable
  pub low_at : slice_get e.variables (min r s) ≡ Some low
  pub high_at : slice_get e.variables (max r s) ≡ Some high
  pub entries : f ≡ with_variable (with_variable e (min r s) (record low { universe = min low.universe high.universe })) (max r s) (record high { state = Link (min r s) })

-- the classes of two region variables are one
pub record RegionsJoined (e f : Entries) (x y : ℕ) : Type 0 where
  pub first : ℕ
  pub second : ℕ
  pub of_first : IsRoot e x first
  pub of_second : IsRoot e y second
  pub joined : ((first ≡ second) × (f ≡ e)) ⊎ RegionsLinked e f first second

-- the number of the region variable that a tree is
abbrev pub region_of : Tree → Option ℕ
region_of empty = None
region_of (more a b) = None
region_of (node l x) = region_variable l

-- two variables are joined, and of other regions it is recorded that they are equal
abbrev pub EquatedAt : Option ℕ → Option ℕ → List Tree → Entries → Entries → NodeId → NodeId → Bool → Type 0
EquatedAt (Some x) (Some y) ts e f a b visible = RegionsJoined e f x y
EquatedAt o p ts e f a b visible =
    Records ts e f (record { relation = relation.Equal; left = a; right = b; is_visible = visible })

abbrev pub Equated : List Tree → Entries → Entries → NodeId → NodeId → Bool → Type 0
Equated ts e f a b visible =
    EquatedAt (region_of (tree_at ts a)) (region_of (tree_at ts b)) ts e f a b visible
