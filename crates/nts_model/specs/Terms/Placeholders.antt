-- The universes of placeholders, and which universe names which.
use Rattle.std.specs.Prelude.{ℕ, ◌≤◌, Option, Some, None}
use Rattle.nts_model.specs.declared.labels.FreeRegion.{FreeRegion}
use Rattle.nts_model.specs.declared.labels.FreeRegion.TheVariants as region
use Rattle.nts_model.specs.declared.labels.Constant.{Constant}
use Rattle.nts_model.specs.declared.labels.Constant.TheVariants as constant
use Rattle.nts_model.specs.declared.labels.Leaf.{Leaf}
use Rattle.nts_model.specs.declared.labels.Leaf.TheVariants as leaf
use Rattle.nts_model.specs.declared.labels.Label.{Label}
use Rattle.nts_model.specs.declared.labels.Label.TheVariants as label

-- the universe of a placeholder that is a type or const, and of one that is a region
abbrev pub constant_level : Constant → Option ℕ
constant_level (constant.Placeholder u n) = Some u
constant_level (constant.Param n) = None

abbrev pub free_region_level : FreeRegion → Option ℕ
free_region_level (region.Placeholder u n) = Some u
free_region_level r = None

-- .. and of any placeholder
abbrev pub leaf_level_of : Leaf → Option ℕ
leaf_level_of (leaf.Variable k n) = None
leaf_level_of (leaf.Region r) = free_region_level r
leaf_level_of (leaf.TyConstant a) = constant_level a
leaf_level_of (leaf.ConstConstant a) = constant_level a

abbrev pub leaf_level : Label → Option ℕ
leaf_level (label.Leaf l) = leaf_level_of l
leaf_level l = None

-- the universe u names what is of that universe, if it is of any
abbrev pub CanName : ℕ → Option ℕ → Type 0
CanName u None = Unit {0}
CanName u (Some v) = v ≤ u
