-- Constraints that make two regions one which stand for themselves, and others.
use Rattle.std.proofs.Common.{◌≡◌, Some, refl, true, lit<, arith}
use Rattle.nts_model.specs.declared.labels.FreeRegion.{FreeRegion}
use Rattle.nts_model.specs.declared.labels.FreeRegion.TheVariants as region
use Rattle.nts_model.specs.declared.labels.Leaf.TheVariants as leaf
use Rattle.nts_model.specs.declared.labels.Label.TheVariants as label
use Rattle.nts_model.specs.declared.labels.Relation.TheVariants as relation
use Rattle.nts_model.specs.Terms.Trees.{label_of}
use Rattle.nts_model.specs.Terms.Substitutions.{leaf_tree}
use Rattle.nts_model.specs.Tables.Contents.{Recorded}
use Rattle.nts_leak_check.specs.Leaking.{IsRigid, EquatesRigid}

abbrev equality : FreeRegion → FreeRegion → Recorded
equality a b = record { relation = relation.Equal; left = leaf_tree (leaf.Region a); right = leaf_tree (leaf.Region b); is_visible = true }

-- the region of a binder that was opened is made 'static
bound_is_static : EquatesRigid 0 (equality (region.Placeholder 1 0) region.Static)
bound_is_static =
    record { equal = refl; left = region.Placeholder 1 0; right = region.Static; left_is = record { is = refl; rigid = lit< tt }; right_is = record { is = refl; rigid = tt }; differ = λ e. cc e }

-- a region of the caller may be 'static
callers_may_be_static : EquatesRigid 0 (equality (region.Placeholder 0 0) region.Static) → ⊥
callers_may_be_static h = rigid h.left h.left_is.is h.left_is.rigid
  where
    rigid : (r : FreeRegion) → label_of (leaf_tree (leaf.Region (region.Placeholder 0 0))) ≡ Some (label.Leaf (leaf.Region r)) → IsRigid 0 r → ⊥
    rigid (region.Placeholder v n) e h = (let same : 0 ≡ v = cc e in omega (arith, same, h))
    rigid region.Static e h = cc e
    rigid r e h = h
