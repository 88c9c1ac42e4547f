-- Region constraints: of what sorts their sides are, and which of those that are recorded say something, each once.
use Rattle.std.specs.Prelude.{◌≡◌, ◌⊎◌, List, [], ◌∷◌, ◌++◌, map, Some}
use Rattle.nts_model.specs.declared.labels.Relation.{Relation}
use Rattle.nts_model.specs.declared.labels.Relation.TheVariants as relation
use Rattle.nts_model.specs.declared.labels.Sort.TheVariants as sort
use Rattle.nts_model.specs.Terms.Trees.{Tree, NodeKind, of_sort, kind_of}
use Rattle.nts_model.specs.Tables.Contents.{Content, Recorded}
use Rattle.nts_model.specs.Tables.Resolving.{deeply_resolved}

-- what stands on the left of a constraint
abbrev pub left_kind : Relation → NodeKind
left_kind relation.Equal = of_sort sort.Region
left_kind relation.RegionOutlives = of_sort sort.Region
left_kind relation.TypeOutlives = of_sort sort.Ty

-- a constraint is between regions, or says that a type outlives a region
pub record ConstrainsRegion (r : Relation) (left right : Tree) : Type 0 where
  pub left_sort : kind_of left ≡ Some (left_kind r)
  pub right_sort : kind_of right ≡ Some (of_sort sort.Region)

-- a constraint with its sides under the table's values and roots
abbrev pub resolved_constraint : Content → Recorded → Recorded
resolved_constraint c x =
    record { relation = x.relation; left = deeply_resolved c x.left; right = deeply_resolved c x.right; is_visible = x.is_visible }

-- all that are recorded
abbrev pub resolved_constraints : Content → List Recorded
resolved_constraints c = map (resolved_constraint c) c.constraints

-- both relate the same sides in the same order
pub record RelatesSame (x y : Recorded) : Type 0 where
  pub relation : x.relation ≡ y.relation
  pub left : x.left ≡ y.left
  pub right : x.right ≡ y.right

abbrev pub IsAmong : List Recorded → Recorded → Type 0
IsAmong [] y = ⊥
IsAmong (x ∷ xs) y = RelatesSame x y ⊎ IsAmong xs y

-- after these it says nothing new: its sides are one, or one of them is the same
abbrev pub SaysNothingNew : List Recorded → Recorded → Type 0
SaysNothingNew xs y = (y.left ≡ y.right) ⊎ IsAmong xs y

-- those of the constraints that say something new where they stand, in order
pub data AreNews : List Recorded → List Recorded → Type 0 where
  none : AreNews [] []
  passed : {xs ys : List Recorded} (x : Recorded) → AreNews xs ys → SaysNothingNew xs x → AreNews (xs ++ x ∷ []) ys
  told : {xs ys : List Recorded} (x : Recorded) → AreNews xs ys → (SaysNothingNew xs x → ⊥) → AreNews (xs ++ x ∷ []) (ys ++ x ∷ [])
