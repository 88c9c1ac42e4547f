-- What is left to do, by terms of a store.
use Rattle.std.specs.Prelude.{◌≡◌, ◌≢◌, ◌⊎◌, ℕ, ◌+◌, ◌^◌, ◌<◌, List, [], ◌∷◌, map, Some}
use Rattle.nts_model.specs.declared.labels.Sort.{Sort}
use Rattle.nts_model.specs.declared.labels.Sort.TheVariants as sort
use Rattle.nts_model.specs.declared.labels.Variance.TheVariants as variance
use Rattle.nts_model.specs.Terms.Trees.{Tree, kind_of, of_sort, row_length, IsClosedUnder, IsClosed}
use Rattle.nts_model.specs.Tables.Contents.{Content}
use Rattle.nts_model.specs.Tables.Resolving.{Knows, resolved}
use Rattle.nts_model.specs.Tables.Levels.{NamesAll, region_level}
use Rattle.nts_model.specs.Derivations.Related.{IsAlias}
use Rattle.nts_variance_model.specs.Variances.Relations.{Relating as Pair}
use Rattle.nts_store.specs.declared.nodes.NodeId.{NodeId}
use Rattle.nts_store.specs.Growth.{tree_at, IsIn}
use Rattle.nts_variance.specs.declared.along.Relating.{Relating}
use Rattle.nts_variance.specs.declared.vary_walk.Spot.{Spot}
use Rattle.nts_variance.specs.declared.vary_walk.Task.{Task}
use Rattle.nts_variance.specs.declared.vary_walk.Task.TheVariants as task
use Rattle.nts_variance.specs.Steps.{WalkStep, enter, build, owe, HasSorts}
use Rattle.nts_variance.specs.Parts.{form_of_tree, parts_of}
use Rattle.nts_variance_model.specs.Variances.Forms.{over}

abbrev pub pair_at : List Tree → Relating → Pair
pair_at ts p = record { variance = p.variance; left = tree_at ts p.left; right = tree_at ts p.right }

abbrev pub pairs_at : List Tree → List Relating → List Pair
pairs_at ts = map (pair_at ts)

abbrev pub ArePairs : List Tree → Content → List Relating → Type 0
ArePairs ts c [] = Unit {0}
ArePairs ts c (p ∷ ps) = (IsIn ts p.left × IsIn ts p.right × Knows c (tree_at ts p.left) × Knows c (tree_at ts p.right)) × ArePairs ts c ps

abbrev pub step_at : List Tree → Task → WalkStep
step_at ts (task.Enter s) = enter s.variance s.is_quiet (tree_at ts s.term)
step_at ts (task.Build t) = build (form_of_tree (tree_at ts t)) (row_length (parts_of (tree_at ts t)))
step_at ts (task.Owe s) = owe s.variance (tree_at ts s.term)

-- a part that is to be entered is a type, a region or a const, and only the binders around it bind in it; a node that is to be
-- built is one with parts
pub record IsPart (ts : List Tree) (c : Content) (s : Spot) : Type 0 where
  pub within : IsIn ts s.term
  pub knows : Knows c (tree_at ts s.term)
  pub closed : IsClosedUnder s.binders (tree_at ts s.term)
  pub room : s.binders + s.term.number < 2 ^ 64
  pub sort : Sort
  pub kind : kind_of (tree_at ts s.term) ≡ Some (of_sort sort)

pub record IsNodeOfTable (ts : List Tree) (c : Content) (t : NodeId) : Type 0 where
  pub within : IsIn ts t
  pub knows : Knows c (tree_at ts t)
  pub is : tree_at ts t ≡ over (form_of_tree (tree_at ts t)) (parts_of (tree_at ts t))
  pub sorts : HasSorts (form_of_tree (tree_at ts t))

abbrev pub IsTask : List Tree → Content → Task → Type 0
IsTask ts c (task.Enter s) = IsPart ts c s
IsTask ts c (task.Build t) = IsNodeOfTable ts c t
IsTask ts c (task.Owe s) = IsPart ts c s

abbrev pub AreTasks : List Tree → Content → List Task → Type 0
AreTasks ts c [] = Unit {0}
AreTasks ts c (x ∷ xs) = IsTask ts c x × AreTasks ts c xs

-- a pair that may be left as a goal: no bound variable escapes from a side, they are of one sort, and one is an alias, or the pair
-- varies and both are types
pub record IsGoal (p : Pair) : Type 0 where
  pub left : IsClosed p.left
  pub right : IsClosed p.right
  pub kinds : kind_of p.left ≡ kind_of p.right
  pub rests : (IsAlias p.left ⊎ IsAlias p.right) ⊎ ((p.variance ≢ variance.Invariant) × (kind_of p.left ≡ Some (of_sort sort.Ty)) × (kind_of p.right ≡ Some (of_sort sort.Ty)))

abbrev pub AreGoals : List Pair → Type 0
AreGoals [] = Unit {0}
AreGoals (p ∷ ps) = IsGoal p × AreGoals ps

-- what was made is of the table, and has no region that the universe u cannot name
abbrev pub AreMade : List Tree → Content → ℕ → List NodeId → Type 0
AreMade ts c u [] = Unit {0}
AreMade ts c u (m ∷ ms) = (IsIn ts m × Knows c (tree_at ts m) × NamesAll region_level u (resolved c (tree_at ts m))) × AreMade ts c u ms
