-- The classes of regions that the recorded equalities make, and the table's own reading.
use Rattle.std.specs.Prelude.{◌≡◌, ℕ, Bool, true, false, ◌==◌, ◌&&◌, if◌then◌else◌, reverse, List, [], ◌∷◌, Option, Some, None}
use Rattle.nts_model.specs.declared.labels.Relation.{Relation}
use Rattle.nts_model.specs.declared.labels.Relation.TheVariants as relation
use Rattle.nts_model.specs.declared.labels.VariableKind.{VariableKind}
use Rattle.nts_model.specs.declared.labels.VariableKind.TheVariants as kind
use Rattle.nts_model.specs.declared.labels.FreeRegion.{FreeRegion}
use Rattle.nts_model.specs.declared.labels.FreeRegion.TheVariants as region
use Rattle.nts_model.specs.Terms.Trees.{Tree, variable_tree}
use Rattle.nts_model.specs.Tables.Contents.{Content, Recorded, kind_at}
use Rattle.nts_model.specs.Tables.Resolving.{kind_or_type, value_at, under, root_of}
use Rattle.nts_model.specs.Terms.Regions.{RegionName, of_variable, of_free, region_tree, region_name}
use Rattle.nts_model.specs.Tables.Worlds.{World, inst, with_tree}

abbrev pub free_regions_are_same : FreeRegion → FreeRegion → Bool
free_regions_are_same region.Static region.Static = true
free_regions_are_same (region.EarlyParam a) (region.EarlyParam b) = a == b
free_regions_are_same (region.LateParam a) (region.LateParam b) = a == b
free_regions_are_same (region.Placeholder u a) (region.Placeholder v b) = (u == v) && (a == b)
free_regions_are_same region.Erased region.Erased = true
free_regions_are_same region.Error region.Error = true
free_regions_are_same a b = false

abbrev pub are_same : RegionName → RegionName → Bool
are_same (of_variable n) (of_variable m) = n == m
are_same (of_free r) (of_free s) = free_regions_are_same r s
are_same a b = false

-- one class for the classes a and b, named by a free region if one of them is
abbrev pub collapse : RegionName → RegionName → RegionName → RegionName
collapse (of_free r) b x = if are_same x b then of_free r else x
collapse (of_variable n) b x = if are_same x (of_variable n) then b else x

abbrev pub root_name : Content → RegionName → RegionName
root_name c (of_variable n) = of_variable (root_of c n)
root_name c (of_free r) = of_free r

abbrev pub two_names : Option RegionName → Option RegionName → Option (RegionName × RegionName)
two_names (Some a) (Some b) = Some (a, b)
two_names a b = None

-- the regions that a constraint makes one
abbrev pub equated : Relation → Tree → Tree → Option (RegionName × RegionName)
equated relation.Equal a b = two_names (region_name a) (region_name b)
equated r a b = None

abbrev pub merged : (RegionName → RegionName) → Option (RegionName × RegionName) → RegionName → RegionName
merged f None x = f x
merged f (Some p) x = collapse (f p.0) (f p.1) (f x)

-- the class of a region: its root, and one class for all that the constraints make one
abbrev pub class_of : Content → List Recorded → RegionName → RegionName
class_of c [] x = root_name c x
class_of c (r ∷ rs) x = merged (class_of c rs) (equated r.relation r.left r.right) x

abbrev pub free_of : FreeRegion → RegionName → FreeRegion
free_of r (of_free s) = s
free_of r (of_variable n) = r

abbrev pub plain_tree : (RegionName → RegionName) → VariableKind → ℕ → Tree
plain_tree f kind.Region n = region_tree (f (of_variable n))
plain_tree f k n = variable_tree k n

-- each variable stands for itself, and each region for its class; all outlives all
abbrev pub plain : Content → (RegionName → RegionName) → World
plain c f =
    record { tree = λ n. plain_tree f (kind_or_type (kind_at c n)) n; region = λ r. free_of r (f (of_free r)); outlives = λ a b. true }

abbrev pub composed : World → (ℕ → Tree) → List ℕ → World
composed w val [] = w
composed w val (n ∷ ns) = composed (with_tree w n (inst w (under val ns (val n)))) val ns

-- .. and each variable with a value for its value
abbrev pub reading : Content → World
reading c = composed (plain c (class_of c c.constraints)) (value_at c) (reverse c.order)

-- the sides of an equality are regions
abbrev pub AreRegions : Relation → Tree → Tree → Type 0
AreRegions relation.Equal a b =
    ((x : RegionName) × (region_name a ≡ Some x)) × ((y : RegionName) × (region_name b ≡ Some y))
AreRegions r a b = Unit {0}

abbrev pub AllRegions : List Recorded → Type 0
AllRegions [] = Unit {0}
AllRegions (x ∷ xs) = AreRegions x.relation x.left x.right × AllRegions xs
