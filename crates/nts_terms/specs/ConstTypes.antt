-- What type a declared const may have.
use Rattle.std.specs.Prelude.{◌≡◌, List, Some, slice_get}
use Rattle.nts_model.specs.declared.labels.Sort.{Sort}
use Rattle.nts_model.specs.declared.labels.Label.{Label}
use Rattle.nts_model.specs.declared.labels.Label.TheVariants as label
use Rattle.nts_model.specs.declared.labels.Leaf.{Leaf}
use Rattle.nts_model.specs.declared.labels.Leaf.TheVariants as leaf
use Rattle.nts_model.specs.declared.labels.BoundVarIndexKind.TheVariants as index
use Rattle.nts_model.specs.Terms.Substitutions.{StaysItself}
use Rattle.nts_model.specs.Terms.Trees.{Tree, IsClosed}
use Rattle.nts_model.specs.Tables.Passing.{AllLabels}

-- no inference variable, parameter or placeholder: a region that is always itself
abbrev pub IsFixedLeaf : Leaf → Type 0
IsFixedLeaf (leaf.Region r) = StaysItself r
IsFixedLeaf l = ⊥

-- a label in the type of a const with arguments of these sorts: a position is that of an argument of its sort
abbrev pub MayStandInConst : List Sort → Label → Type 0
MayStandInConst ss (label.Leaf l) = IsFixedLeaf l
MayStandInConst ss (label.Bound s index.Canonical i) = slice_get ss i ≡ Some s
MayStandInConst ss l = Unit {0}

-- a type over the arguments of a const and nothing else: no bound variable escapes from it either
pub record IsConstType (ss : List Sort) (t : Tree) : Type 0 where
  pub labels : AllLabels (MayStandInConst ss) t
  pub closed : IsClosed t
