-- Regions that are made one, and can't be.
use Rattle.std.specs.Prelude.{◌≡◌, ◌⊎◌, ◌<◌, ℕ, List, Some}
use Rattle.nts_model.specs.declared.labels.FreeRegion.{FreeRegion}
use Rattle.nts_model.specs.declared.labels.FreeRegion.TheVariants as region
use Rattle.nts_model.specs.declared.labels.Leaf.TheVariants as leaf
use Rattle.nts_model.specs.declared.labels.Label.TheVariants as label
use Rattle.nts_model.specs.declared.labels.Relation.TheVariants as relation
use Rattle.nts_model.specs.Terms.Trees.{Tree, label_of}
use Rattle.nts_model.specs.Lists.{Among}
use Rattle.nts_model.specs.Tables.Contents.{Content, Recorded}
use Rattle.nts_model.specs.Tables.Resolving.{IsSound}
use Rattle.nts_model.specs.Tables.Recording.{resolved_constraints}
use Rattle.nts_model.specs.Derivations.Handlers.{Handler}
use Rattle.nts_store.specs.Growth.{IsIn}
use Rattle.nts_unify.specs.declared.contents.Constraint.{Constraint}

-- a region that stands for itself, as seen from the universe u: 'static, and the placeholders of later universes
abbrev pub IsRigid : ℕ → FreeRegion → Type 0
IsRigid u region.Static = Unit {0}
IsRigid u (region.Placeholder v n) = u < v
IsRigid u r = ⊥

-- the tree is that region, which stands for itself
pub record HasRigidRegion (u : ℕ) (t : Tree) (r : FreeRegion) : Type 0 where
  pub is : label_of t ≡ Some (label.Leaf (leaf.Region r))
  pub rigid : IsRigid u r

-- the constraint makes two such regions one
pub record EquatesRigid (u : ℕ) (x : Recorded) : Type 0 where
  pub equal : x.relation ≡ relation.Equal
  pub left : FreeRegion
  pub right : FreeRegion
  pub left_is : HasRigidRegion u x.left left
  pub right_is : HasRigidRegion u x.right right
  pub differ : left ≡ right → ⊥

-- .. so does one of these
pub record OneEquatesRigid (u : ℕ) (xs : List Recorded) : Type 0 where
  pub constraint : Recorded
  pub among : Among xs constraint
  pub equates : EquatesRigid u constraint

-- the sides of a constraint are of the store
abbrev pub AreSidesIn : List Tree → Constraint → Type 0
AreSidesIn ts x = IsIn ts x.left × IsIn ts x.right

-- one of a table's constraints, resolved, does
pub record HasLeak (c : Content) (u : ℕ) : Type 0 where
  pub sound : IsSound c
  pub one : OneEquatesRigid u (resolved_constraints c)

-- the rules of a handler, and a table has a leak too where a constraint makes two such regions one
abbrev pub checking : Handler → Handler
checking h = record h { leaks = λ c u. h.leaks c u ⊎ HasLeak c u }
