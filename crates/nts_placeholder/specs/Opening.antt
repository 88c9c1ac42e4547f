-- Bound variables opened with placeholders of listed universes.
use Rattle.std.specs.Prelude.{◌≡◌, ℕ, ◌+◌, ◌-◌, nat_lt, Bool, true, if◌then◌else◌, List, length, Option, Some, None, IsSome, get_or}
use Rattle.nts_model.specs.declared.labels.Sort.{Sort}
use Rattle.nts_model.specs.declared.labels.Sort.TheVariants as sort
use Rattle.nts_model.specs.declared.labels.FreeRegion.TheVariants as region
use Rattle.nts_model.specs.declared.labels.Constant.TheVariants as constant
use Rattle.nts_model.specs.declared.labels.Leaf.TheVariants as leaf
use Rattle.nts_model.specs.declared.labels.BoundVarIndexKind.TheVariants as index
use Rattle.nts_model.specs.declared.labels.Label.{Label}
use Rattle.nts_model.specs.declared.labels.Label.TheVariants as label
use Rattle.nts_model.specs.Terms.Trees.{Tree, empty, more, node, binders}
use Rattle.nts_placeholder.specs.declared.maps.Placeholder.{Placeholder}
use Rattle.nts_placeholder.specs.declared.maps.BoundVar.{BoundVar}

-- the placeholder of a sort
abbrev pub placeholder_label : Sort → Placeholder → Label
placeholder_label sort.Ty p = label.Leaf (leaf.TyConstant (constant.Placeholder p.universe p.var))
placeholder_label sort.Region p = label.Leaf (leaf.Region (region.Placeholder p.universe p.var))
placeholder_label sort.Const p = label.Leaf (leaf.ConstConstant (constant.Placeholder p.universe p.var))

-- the universe of an entry, the root where there is none
abbrev pub or_root : Option ℕ → ℕ
or_root None = 0
or_root (Some u) = u

abbrev pub universe_at : List (Option ℕ) → ℕ → ℕ
universe_at U e = or_root (get_or U e None)

-- under c binders of the value, a bound variable of level d, at least c, opens to the placeholder of the universe at
-- entry length U + c - d - 1
abbrev pub opened_label : List (Option ℕ) → ℕ → Label → Label
opened_label U c (label.Bound s (index.Bound d) n) =
    if nat_lt d c then label.Bound s (index.Bound d) n else placeholder_label s (record { universe = universe_at U (length U + c - d - 1); var = n })
opened_label U c l = l

abbrev pub opened_by : List (Option ℕ) → ℕ → Tree → Tree
opened_by U c empty = empty
opened_by U c (more a b) = more (opened_by U c a) (opened_by U c b)
opened_by U c (node l t) = node (opened_label U c l) (opened_by U (c + binders l) t)

-- the entry of a bound variable whose level is counted outside of the value
abbrev pub entry_for : List (Option ℕ) → BoundVar → ℕ
entry_for U b = length U - b.level - 1

abbrev pub placeholder_for : List (Option ℕ) → BoundVar → Placeholder
placeholder_for U b = record { universe = universe_at U (entry_for U b); var = b.var }

-- the maps list the placeholders of these bound variables and no other, each with a bound variable that it stands for
pub record AreMapsOf (U : List (Option ℕ)) (escaping : Sort → BoundVar → Bool) (mapped : Sort → Placeholder → Option BoundVar) : Type 0 where
  pub made : (s : Sort) (p : Placeholder) (b : BoundVar) → mapped s p ≡ Some b → (escaping s b ≡ true) × (p ≡ placeholder_for U b)
  pub all : (s : Sort) (b : BoundVar) → escaping s b ≡ true → IsSome (mapped s (placeholder_for U b))
