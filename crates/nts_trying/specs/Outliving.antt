-- Goals of the store that say of a type or a region that it outlives a region.
use Rattle.std.specs.Prelude.{◌≡◌, false, List, Option, Some, None}
use Rattle.nts_model.specs.Terms.Trees.{Tree, any_label, is_alias, IsClosed}
use Rattle.nts_model.specs.Tables.Holding.{HoldsConstraint}
use Rattle.nts_model.specs.Derivations.Proving.{recorded_as}
use Rattle.nts_model.specs.Derivations.Related.{Constraint}
use Rattle.nts_model.specs.Derivations.Sequents.{HasClosedStatements}
use Rattle.nts_theory.specs.Outliving.{IsOutlives}
use Rattle.nts_store.specs.Growth.{tree_at, IsIn}
use Rattle.nts_terms.specs.declared.handles.Goal.{Goal}
use Rattle.nts_table.specs.Tables.{Table}
use Rattle.nts_unify.specs.Reading.{content_of}
use Rattle.nts_trying.specs.declared.outlives.Outlives.{Outlives}

-- the sides are terms of the store
pub record AreSidesIn (ts : List Tree) (o : Outlives) : Type 0 where
  pub left : IsIn ts o.left
  pub right : IsIn ts o.right

-- as a constraint between trees
abbrev pub constraint_at : List Tree → Outlives → Constraint
constraint_at ts o = record { relation = o.relation; left = tree_at ts o.left; right = tree_at ts o.right }

-- an environment without bound variables that are without their binders, and none of whose statements names a binder that binds
-- nothing
pub record IsClosedEnv (e : Tree) : Type 0 where
  pub closed : IsClosed e
  pub statements : HasClosedStatements e

-- a goal that something outlives a region: it binds nothing and has no alias, and its environment is closed
pub record OutlivesIn (ts : List Tree) (g : Goal) (x : Constraint) : Type 0 where
  pub says : IsOutlives (tree_at ts g.predicate.node) x
  pub environment : IsClosedEnv (tree_at ts g.param_env.node)
  pub no_alias : any_label is_alias (tree_at ts g.predicate.node) ≡ false

-- .. that these terms of the store are the sides of
pub record IsOutlivesGoal (ts : List Tree) (g : Goal) (o : Outlives) : Type 0 where
  pub left : IsIn ts o.left
  pub right : IsIn ts o.right
  pub is : OutlivesIn ts g (constraint_at ts o)

-- the goal is one, and this is what it says; or it is none
abbrev pub SaysWhatOutlives : List Tree → Goal → Option Outlives → Type 0
SaysWhatOutlives ts g (Some o) = IsOutlivesGoal ts g o
SaysWhatOutlives ts g None = (x : Constraint) → OutlivesIn ts g x → ⊥

-- the table holds the constraint
abbrev pub HoldsIn : Constraint → List Tree → Table → Type 0
HoldsIn x ts t = HoldsConstraint (content_of ts t.entries) (recorded_as x)
