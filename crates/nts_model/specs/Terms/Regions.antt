-- Regions that are no bound variables: the free regions, and the variables of regions.
use Rattle.std.specs.Prelude.{◌≡◌, ℕ, Option, Some, None}
use Rattle.nts_model.specs.declared.labels.VariableKind.{VariableKind}
use Rattle.nts_model.specs.declared.labels.VariableKind.TheVariants as kind
use Rattle.nts_model.specs.declared.labels.FreeRegion.{FreeRegion}
use Rattle.nts_model.specs.declared.labels.Leaf.{Leaf}
use Rattle.nts_model.specs.declared.labels.Leaf.TheVariants as leaf
use Rattle.nts_model.specs.declared.labels.Label.{Label}
use Rattle.nts_model.specs.declared.labels.Label.TheVariants as label
use Rattle.nts_model.specs.Terms.Trees.{Tree, empty, node, variable_tree}

-- a region that is a variable, or free
pub data RegionName : Type 0 where
  of_variable : ℕ → RegionName
  of_free : FreeRegion → RegionName

abbrev pub region_tree : RegionName → Tree
region_tree (of_variable n) = variable_tree kind.Region n
region_tree (of_free r) = node (label.Leaf (leaf.Region r)) empty

abbrev pub name_of_variable : VariableKind → ℕ → Option RegionName
name_of_variable kind.Region n = Some (of_variable n)
name_of_variable k n = None

abbrev pub name_of_leaf : Leaf → Option RegionName
name_of_leaf (leaf.Variable k n) = name_of_variable k n
name_of_leaf (leaf.Region r) = Some (of_free r)
name_of_leaf l = None

abbrev pub name_of_label : Label → Option RegionName
name_of_label (label.Leaf l) = name_of_leaf l
name_of_label l = None

-- the region that a tree is
abbrev pub region_name : Tree → Option RegionName
region_name (node l empty) = name_of_label l
region_name t = None

-- a free region, or a variable of a region
abbrev pub IsRegion : Tree → Type 0
IsRegion t = (x : RegionName) × (region_name t ≡ Some x)
