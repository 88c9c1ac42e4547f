-- Values that were related in a context.
use Rattle.std.specs.Prelude.{◌≡◌, ◌++◌, List, []}
use Rattle.nts_model.specs.declared.labels.Variance.{Variance}
use Rattle.nts_model.specs.Terms.Trees.{Tree}
use Rattle.nts_model.specs.Tables.Equations.{AreRelated}
use Rattle.nts_model.specs.Tables.Passing.{BringsLabelsOf}
use Rattle.nts_model.specs.Tables.Resolving.{Knows}
use Rattle.nts_store.specs.declared.nodes.NodeId.{NodeId}
use Rattle.nts_store.specs.Growth.{tree_at}
use Rattle.nts_terms.specs.declared.cx.Cx.{Cx}
use Rattle.nts_terms.specs.declared.handles.AliasTerm.{AliasTerm}
use Rattle.nts_terms.specs.declared.handles.Goal.{Goal}
use Rattle.nts_terms.specs.declared.handles.ParamEnv.{ParamEnv}
use Rattle.nts_terms.specs.Handles.{HoldsEnv}
use Rattle.nts_terms.specs.Signatures.{variances_in}
use Rattle.nts_certainty.specs.declared.sources.GoalSource.{GoalSource}
use Rattle.nts_certainty.specs.declared.sources.GoalSource.TheVariants as source
use Rattle.nts_search.specs.declared.kinds.CurrentGoalKind.TheVariants as kind
use Rattle.nts_adding.specs.Adding.{AddsEach}
use Rattle.nts_adding.specs.Rigid.{AddsRigidly}
use Rattle.nts_adding.specs.Equal.{IsEqualToNew}
use Rattle.nts_unify.specs.Entries.{Entries}
use Rattle.nts_unify.specs.Reading.{content_of}
use Rattle.nts_table.specs.Tables.{Table}
use Rattle.nts_solver_relating.specs.Sides.{IsRelatedBy}
use Rattle.nts_nested_goals.specs.declared.state.EvalState.{EvalState}

-- an environment of the store and the table
pub record IsEnvOf (a : Cx) (t : Table) (env : ParamEnv) : Type 0 where
  pub holds : HoldsEnv a.nodes env
  pub knows : Knows (content_of a.nodes t.entries) (tree_at a.nodes env.node)

-- what stands for goals that are added from that source is behind the goals that were there
pub record AddsTo (a b : Cx) (t u : Table) (s : GoalSource) (gs : List Goal) (old new : List (GoalSource × Goal)) : Type 0 where
  pub added : List (GoalSource × Goal)
  pub adds : AddsEach a.nodes b.nodes t.entries u.entries kind.Misc s gs added
  pub behind : new ≡ old ++ added

-- two values were related, and this stands for the goals that are left
pub record RelatesAdding (a b : Cx) (e f : Entries) (env : ParamEnv) (v : Variance) (x y : NodeId) (added : List (GoalSource × Goal)) : Type 0 where
  pub goals : List Goal
  pub store : List Tree
  pub entries : Entries
  pub related : IsRelatedBy (variances_in a.declarations) a.nodes store e entries env v (tree_at a.nodes x) (tree_at a.nodes y) goals
  pub adds : AddsEach store b.nodes entries f kind.Misc source.TypeRelating goals added

-- .. behind the goals that were there
pub record AddsRelated (a b : Cx) (t u : Table) (m n : EvalState) (env : ParamEnv) (v : Variance) (x y : NodeId) : Type 0 where
  pub added : List (GoalSource × Goal)
  pub related : RelatesAdding a b t.entries u.entries env v x y added
  pub behind : n.nested_goals.items ≡ m.nested_goals.items ++ added

-- an alias was related with a variable, and what stands for the goals that are left is behind the goals that were there
pub record AddsRelatedRigidly (a b : Cx) (t u : Table) (m n : EvalState) (env : ParamEnv) (v : Variance) (x : AliasTerm) (y : NodeId) : Type 0 where
  pub added : List (GoalSource × Goal)
  pub related : AddsRigidly a b t.entries u.entries env v x y added
  pub behind : n.nested_goals.items ≡ m.nested_goals.items ++ added

-- the goal that an alias is equal to a new variable is added behind the goals that were there, as relating adds goals
pub record AddsEqualToNew (a b : Cx) (e f : Entries) (m n : EvalState) (env : ParamEnv) (x v : NodeId) : Type 0 where
  pub store : List Tree
  pub entries : Entries
  pub goals : List Goal
  pub equal : IsEqualToNew a.nodes store e entries env x v goals
  pub added : List (GoalSource × Goal)
  pub adds : AddsEach store b.nodes entries f kind.Misc source.TypeRelating goals added
  pub behind : n.nested_goals.items ≡ m.nested_goals.items ++ added

-- two values were made equal, and nothing is left to be added
pub record LeavesNothing (a b : Cx) (e f : Entries) (x y : NodeId) (added : List (GoalSource × Goal)) : Type 0 where
  pub none : added ≡ []
  pub related : AreRelated (content_of a.nodes e) (content_of b.nodes f) (tree_at a.nodes x) (tree_at a.nodes y)
  pub labels : BringsLabelsOf (content_of a.nodes e) (content_of b.nodes f) (tree_at a.nodes x) (tree_at a.nodes y)

-- two values were made equal, and the goals are those that were there
pub record AreEquatedIn (a b : Cx) (t u : Table) (m n : EvalState) (x y : NodeId) : Type 0 where
  pub goals : n.nested_goals.items ≡ m.nested_goals.items
  pub related : AreRelated (content_of a.nodes t.entries) (content_of b.nodes u.entries) (tree_at a.nodes x) (tree_at a.nodes y)
  pub labels : BringsLabelsOf (content_of a.nodes t.entries) (content_of b.nodes u.entries) (tree_at a.nodes x) (tree_at a.nodes y)

-- what else the state keeps is the same
pub record KeepsState (m n : EvalState) : Type 0 where
  pub taint : n.is_tainted ≡ m.is_tainted
  pub fault : n.fault ≡ m.fault
  pub steps : n.last_steps ≡ m.last_steps
  pub depth : n.root_depth ≡ m.root_depth
