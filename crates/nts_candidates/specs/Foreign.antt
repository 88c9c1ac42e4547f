-- Leaves that stand for something else elsewhere.
use Rattle.std.specs.Prelude.{Bool, true, false}
use Rattle.nts_certainty.specs.nts_model.specs.declared.labels.FreeRegion.{FreeRegion}
use Rattle.nts_certainty.specs.nts_model.specs.declared.labels.FreeRegion.TheVariants as region
use Rattle.nts_certainty.specs.nts_model.specs.declared.labels.Leaf.{Leaf}
use Rattle.nts_certainty.specs.nts_model.specs.declared.labels.Leaf.TheVariants as leaf

-- leaves that a clause may not have: only regions that stand for themselves everywhere are left
abbrev pub is_foreign_region : FreeRegion → Bool
is_foreign_region region.Static = false
is_foreign_region region.Erased = false
is_foreign_region region.Error = false
is_foreign_region r = true

abbrev pub is_foreign_leaf : Leaf → Bool
is_foreign_leaf (leaf.Region r) = is_foreign_region r
is_foreign_leaf l = true
