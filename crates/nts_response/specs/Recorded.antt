-- Region constraints of a response that are recorded in a table.
use Rattle.std.specs.Prelude.{◌≡◌, ◌⊎◌, ◌&&◌, Bool, true, List, [], ◌∷◌, ◌++◌, Some}
use Rattle.nts_model.specs.declared.labels.Sort.TheVariants as sort
use Rattle.nts_model.specs.declared.labels.Relation.{Relation}
use Rattle.nts_model.specs.declared.labels.Relation.TheVariants as relation
use Rattle.nts_model.specs.Terms.Trees.{Tree, kind_of, of_sort, IsClosed}
use Rattle.nts_model.specs.Tables.Contents.{Content, Recorded}
use Rattle.nts_model.specs.Terms.Regions.{IsRegion}
use Rattle.nts_model.specs.Terms.Substitutions.{filled}
use Rattle.nts_store.specs.Growth.{tree_at}
use Rattle.nts_terms.specs.declared.modes.VisibleForLeakCheck.{VisibleForLeakCheck}
use Rattle.nts_candidates.specs.declared.data.RegionConstraint.{RegionConstraint}
use Rattle.nts_response.specs.Applied.{IsFillable}

-- the sides of constraints, one after another
abbrev pub sides_of : List Recorded → List Tree
sides_of [] = []
sides_of (x ∷ xs) = x.left ∷ x.right ∷ sides_of xs

-- the left side of a constraint: a type that outlives, or a region
abbrev pub IsLeftSide : Relation → Tree → Type 0
IsLeftSide relation.TypeOutlives t = kind_of t ≡ Some (of_sort sort.Ty)
IsLeftSide r t = IsRegion t

-- both sides can be filled, and are then those of such a constraint, and closed
pub record IsRecordable (ts : List Tree) (c : Content) (xs : List Tree) (x : RegionConstraint × VisibleForLeakCheck) : Type 0 where
  pub left : IsFillable ts c xs x.0.left.node
  pub right : IsFillable ts c xs x.0.right.node
  pub left_side : IsLeftSide x.0.relation (filled xs (tree_at ts x.0.left.node))
  pub right_side : IsRegion (filled xs (tree_at ts x.0.right.node))
  pub left_closed : IsClosed (filled xs (tree_at ts x.0.left.node))

-- that a type outlives a region the leak check always sees; a constraint between regions, as told
abbrev pub seen_by_leak_check : Relation → Bool → Bool
seen_by_leak_check relation.TypeOutlives v = true
seen_by_leak_check r v = v

-- whether it sees a constraint of a response: it saw it in the query, and is to see it here
abbrev pub seen_if : Bool → Recorded → Bool
seen_if v x = seen_by_leak_check x.relation (x.is_visible && v)

-- a constraint between closed terms, which the leak check sees or not
pub record IsShown (v : Bool) (x : Recorded) : Type 0 where
  pub visible : x.is_visible ≡ v
  pub left : IsClosed x.left
  pub right : IsClosed x.right

-- one constraint more at most, between closed terms, which the leak check sees as told
abbrev pub AddsSeen : Bool → List Recorded → List Recorded → Type 0
AddsSeen v xs ys = (ys ≡ xs) ⊎ ((x : Recorded) × (ys ≡ xs ++ x ∷ []) × IsShown v x)

-- .. for each constraint of a response
abbrev pub AddsAllSeen : Bool → List Recorded → List Recorded → List Recorded → Type 0
AddsAllSeen v [] xs zs = zs ≡ xs
AddsAllSeen v (r ∷ rs) xs zs = (ys : List Recorded) × AddsSeen (seen_if v r) xs ys × AddsAllSeen v rs ys zs
