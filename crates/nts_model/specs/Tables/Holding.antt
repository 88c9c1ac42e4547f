-- What a table holds, and what stays when it grows.
use Rattle.std.specs.Prelude.{◌≡◌, ◌⊎◌, ℕ, ◌≤◌, length, Some, Contains}
use Rattle.nts_model.specs.declared.labels.Relation.{Relation}
use Rattle.nts_model.specs.declared.labels.Relation.TheVariants as relation
use Rattle.nts_model.specs.declared.labels.VariableKind.{VariableKind}
use Rattle.nts_model.specs.Terms.Trees.{Tree}
use Rattle.nts_model.specs.Tables.Contents.{Content, Recorded, kind_at}
use Rattle.nts_model.specs.Tables.Resolving.{deeply_resolved, Knows}
use Rattle.nts_model.specs.Tables.Levels.{Falls}

-- two trees are one under the table's values and roots
abbrev pub AreOne : Content → Tree → Tree → Type 0
AreOne c a b = deeply_resolved c a ≡ deeply_resolved c b

-- under the table's values and roots both sides are one region
abbrev pub IsTrivialUnder : Content → Relation → Tree → Tree → Type 0
IsTrivialUnder c relation.TypeOutlives a b = ⊥
IsTrivialUnder c r a b = AreOne c a b

-- the sides are those of the other constraint, and of an equality in either order
abbrev pub HasSides : Content → Relation → Recorded → Recorded → Type 0
HasSides c relation.Equal x y =
    (AreOne c x.left y.left × AreOne c x.right y.right) ⊎ (AreOne c x.left y.right × AreOne c x.right y.left)
HasSides c r x y = AreOne c x.left y.left × AreOne c x.right y.right

-- a recorded constraint that says the same
pub record IsRecorded (c : Content) (x : Recorded) : Type 0 where
  pub constraint : Recorded
  pub found : Contains c.constraints constraint
  pub same_relation : constraint.relation ≡ x.relation
  pub same_sides : HasSides c x.relation x constraint

-- the table holds a constraint that is trivial or recorded
abbrev pub HoldsConstraint : Content → Recorded → Type 0
HoldsConstraint c x = IsTrivialUnder c x.relation x.left x.right ⊎ IsRecorded c x

-- the second table has all that the first has: variables, values, links and constraints
pub record Continues (c d : Content) : Type 0 where
  pub more : length c.slots ≤ length d.slots
  pub grows : c.universe ≤ d.universe
  pub kinds : (n : ℕ) (k : VariableKind) → kind_at c n ≡ Some k → kind_at d n ≡ Some k
  pub falls : Falls c d
  pub values : (t : Tree) → Knows c t → deeply_resolved d (deeply_resolved c t) ≡ deeply_resolved d t
  pub constraints : (x : Recorded) → Contains c.constraints x → Contains d.constraints x
