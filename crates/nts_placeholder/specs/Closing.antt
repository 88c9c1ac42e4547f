-- Placeholders of listed universes closed to bound variables.
use Rattle.std.specs.Prelude.{ℕ, ◌+◌, ◌-◌, nat_eq, Bool, false, if◌then◌else◌, List, [], ◌∷◌, length, Option, Some, None}
use Rattle.indexmap.specs.IndexMap.{get}
use Rattle.nts_model.specs.declared.labels.Sort.{Sort}
use Rattle.nts_model.specs.declared.labels.Sort.TheVariants as sort
use Rattle.nts_model.specs.declared.labels.FreeRegion.{FreeRegion}
use Rattle.nts_model.specs.declared.labels.FreeRegion.TheVariants as region
use Rattle.nts_model.specs.declared.labels.Constant.{Constant}
use Rattle.nts_model.specs.declared.labels.Constant.TheVariants as constant
use Rattle.nts_model.specs.declared.labels.Leaf.{Leaf}
use Rattle.nts_model.specs.declared.labels.Leaf.TheVariants as leaf
use Rattle.nts_model.specs.declared.labels.BoundVarIndexKind.TheVariants as index
use Rattle.nts_model.specs.declared.labels.Label.{Label}
use Rattle.nts_model.specs.declared.labels.Label.TheVariants as label
use Rattle.nts_model.specs.Terms.Trees.{Tree, empty, more, node, binders}
use Rattle.nts_placeholder.specs.declared.maps.Placeholder.{Placeholder}
use Rattle.nts_placeholder.specs.declared.maps.BoundVar.{BoundVar}
use Rattle.nts_placeholder.specs.declared.maps.PlaceholderMaps.{PlaceholderMaps}
use Rattle.nts_placeholder.specs.contracts.maps.PlaceholderPartialEq.TheImpl as placeholder_eq

-- what the maps say of a placeholder of a sort
abbrev pub mapped : PlaceholderMaps → Sort → Placeholder → Option BoundVar
mapped m sort.Ty p = get placeholder_eq.ghosts.eq m.types p
mapped m sort.Region p = get placeholder_eq.ghosts.eq m.regions p
mapped m sort.Const p = get placeholder_eq.ghosts.eq m.consts p

-- the placeholder that a label is, with its sort
abbrev pub placeholder_of_constant : Sort → Constant → Option (Sort × Placeholder)
placeholder_of_constant s (constant.Placeholder u n) = Some (s, record { universe = u; var = n })
placeholder_of_constant s (constant.Param n) = None

abbrev pub placeholder_of_region : FreeRegion → Option (Sort × Placeholder)
placeholder_of_region (region.Placeholder u n) = Some (sort.Region, record { universe = u; var = n })
placeholder_of_region r = None

abbrev pub placeholder_of_leaf : Leaf → Option (Sort × Placeholder)
placeholder_of_leaf (leaf.TyConstant a) = placeholder_of_constant sort.Ty a
placeholder_of_leaf (leaf.ConstConstant a) = placeholder_of_constant sort.Const a
placeholder_of_leaf (leaf.Region r) = placeholder_of_region r
placeholder_of_leaf (leaf.Variable k n) = None

abbrev pub placeholder_of : Label → Option (Sort × Placeholder)
placeholder_of (label.Leaf x) = placeholder_of_leaf x
placeholder_of l = None

-- one place further
abbrev pub one_on : Option ℕ → Option ℕ
one_on None = None
one_on (Some e) = Some (e + 1)

-- the first entry of a universe
abbrev pub is_universe : Option ℕ → ℕ → Bool
is_universe None u = false
is_universe (Some v) u = nat_eq v u

abbrev pub entry_of : List (Option ℕ) → ℕ → Option ℕ
entry_of [] u = None
entry_of (x ∷ U) u = if is_universe x u then Some 0 else one_on (entry_of U u)

-- under c binders of the value, a placeholder that the maps list, and whose universe stands at entry e, closes to the bound
-- variable of level length U - e + c - 1
abbrev pub closed_at : List (Option ℕ) → ℕ → Sort → Label → Option BoundVar → Option ℕ → Label
closed_at U c s l (Some b) (Some e) = label.Bound s (index.Bound (length U - e + c - 1)) b.var
closed_at U c s l (Some b) None = l
closed_at U c s l None e = l

abbrev pub closed_placeholder : (Sort → Placeholder → Option BoundVar) → List (Option ℕ) → ℕ → Label → Option (Sort × Placeholder) → Label
closed_placeholder M U c l None = l
closed_placeholder M U c l (Some p) = closed_at U c p.0 l (M p.0 p.1) (entry_of U p.1.universe)

abbrev pub closed_label : (Sort → Placeholder → Option BoundVar) → List (Option ℕ) → ℕ → Label → Label
closed_label M U c l = closed_placeholder M U c l (placeholder_of l)

abbrev pub closed_by : (Sort → Placeholder → Option BoundVar) → List (Option ℕ) → ℕ → Tree → Tree
closed_by M U c empty = empty
closed_by M U c (more a b) = more (closed_by M U c a) (closed_by M U c b)
closed_by M U c (node l t) = node (closed_label M U c l) (closed_by M U (c + binders l) t)
