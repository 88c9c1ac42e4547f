-- Maps of leaves: renamings, and instances of trees.
use Rattle.std.specs.Prelude.{◌≡◌, ◌⊎◌, ℕ, Option, List, None, Some, get_or}
use Rattle.nts_model.specs.declared.labels.Sort.{Sort}
use Rattle.nts_model.specs.declared.labels.Sort.TheVariants as sort
use Rattle.nts_model.specs.declared.labels.VariableKind.{VariableKind}
use Rattle.nts_model.specs.declared.labels.VariableKind.TheVariants as kind
use Rattle.nts_model.specs.declared.labels.FreeRegion.{FreeRegion}
use Rattle.nts_model.specs.declared.labels.FreeRegion.TheVariants as region
use Rattle.nts_model.specs.declared.labels.Constant.{Constant}
use Rattle.nts_model.specs.declared.labels.Leaf.{Leaf}
use Rattle.nts_model.specs.declared.labels.Leaf.TheVariants as leaf
use Rattle.nts_model.specs.declared.labels.Label.{Label}
use Rattle.nts_model.specs.declared.labels.Label.TheVariants as label
use Rattle.nts_model.specs.Terms.Trees.{Tree, empty, more, node, IsClosed, IsFormed}
use Rattle.nts_model.specs.Terms.Regions.{IsRegion}
use Rattle.nts_model.specs.Terms.Fitting.{Fits}
use Rattle.nts_model.specs.declared.labels.BoundVarIndexKind.TheVariants as index

-- the tree that a leaf is
abbrev pub leaf_tree : Leaf → Tree
leaf_tree l = node (label.Leaf l) empty

abbrev pub put : (Leaf → Tree) → Label → Tree → Tree
put f (label.Leaf l) c = f l
put f l c = node l c

-- a tree for each leaf
abbrev pub replace : (Leaf → Tree) → Tree → Tree
replace f empty = empty
replace f (more a b) = more (replace f a) (replace f b)
replace f (node l c) = put f l (replace f c)

-- the leaf stands in the tree
abbrev pub Occurs : Leaf → Tree → Type 0
Occurs x empty = ⊥
Occurs x (more a b) = Occurs x a ⊎ Occurs x b
Occurs x (node l c) = (label.Leaf x ≡ l) ⊎ Occurs x c

-- what a leaf may stand for: a region for a region, a constant for a constant of its sort
abbrev pub FitsLeaf : Leaf → Tree → Type 0
FitsLeaf (leaf.Variable k n) t = Fits k t
FitsLeaf (leaf.Region r) t = IsRegion t
FitsLeaf (leaf.TyConstant a) t = (b : Constant) × (t ≡ leaf_tree (leaf.TyConstant b))
FitsLeaf (leaf.ConstConstant a) t = (b : Constant) × (t ≡ leaf_tree (leaf.ConstConstant b))

-- regions that stay themselves: 'static, erased and error regions
abbrev pub StaysItself : FreeRegion → Type 0
StaysItself region.Static = Unit {0}
StaysItself region.Erased = Unit {0}
StaysItself region.Error = Unit {0}
StaysItself r = ⊥

-- a type's or const's constant
abbrev pub IsConstant : Leaf → Type 0
IsConstant (leaf.TyConstant a) = Unit {0}
IsConstant (leaf.ConstConstant a) = Unit {0}
IsConstant l = ⊥

-- an instance: variables stand for closed terms that fit them, regions for regions, and constants are
-- renamed, no two of them to one
pub record Instance : Type 0 where
  pub value : Leaf → Tree
  pub fits : (l : Leaf) → FitsLeaf l (value l)
  pub formed : (l : Leaf) → IsFormed (value l)
  pub closed : (l : Leaf) → IsClosed (value l)
  pub distinct : (l m : Leaf) → IsConstant l → IsConstant m → value l ≡ value m → l ≡ m
  pub stays : (r : FreeRegion) → StaysItself r → value (leaf.Region r) ≡ leaf_tree (leaf.Region r)

abbrev pub instance_of : Instance → Tree → Tree
instance_of ι = replace ι.value

-- the sort of a leaf: each kind of variable is one, all regions that are not bound are one
pub data LeafSort : Type 0 where
  of_variable : VariableKind → LeafSort
  of_constant : Sort → LeafSort

abbrev pub leaf_sort : Leaf → LeafSort
leaf_sort (leaf.Variable k n) = of_variable k
leaf_sort (leaf.Region r) = of_variable kind.Region
leaf_sort (leaf.TyConstant a) = of_constant sort.Ty
leaf_sort (leaf.ConstConstant a) = of_constant sort.Const

-- a bijection of leaves that keeps their sorts
pub record Renaming : Type 0 where
  pub to : Leaf → Leaf
  pub from : Leaf → Leaf
  pub back : (l : Leaf) → from (to l) ≡ l
  pub forth : (l : Leaf) → to (from l) ≡ l
  pub keeps_sorts : (l : Leaf) → leaf_sort (to l) ≡ leaf_sort l

abbrev pub rename : Renaming → Tree → Tree
rename ρ = replace (λ l. leaf_tree (ρ.to l))

-- .. that leaves 'static, erased and error regions
abbrev pub IsPlain : Renaming → Type 0
IsPlain ρ = (r : FreeRegion) → StaysItself r → ρ.to (leaf.Region r) ≡ leaf.Region r

-- the position that a label names
abbrev pub position_of : Label → Option ℕ
position_of (label.Bound s index.Canonical i) = Some i
position_of l = None

abbrev pub value_or : Option ℕ → List Tree → Tree → Tree
value_or None vs t = t
value_or (Some i) vs t = get_or vs i empty

-- the values in place of the positions; .. and trees in place of leaves
abbrev pub filled : List Tree → Tree → Tree
filled vs empty = empty
filled vs (more a b) = more (filled vs a) (filled vs b)
filled vs (node l c) = value_or (position_of l) vs (node l (filled vs c))

abbrev pub filled_under : (Leaf → Tree) → List Tree → Tree → Tree
filled_under f vs empty = empty
filled_under f vs (more a b) = more (filled_under f vs a) (filled_under f vs b)
filled_under f vs (node l c) = value_or (position_of l) vs (put f l (filled_under f vs c))
