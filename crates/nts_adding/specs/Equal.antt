-- An alias that is to be equal to a new variable.
use Rattle.std.specs.Prelude.{List, [], ◌∷◌}
use Rattle.nts_model.specs.declared.labels.Variance.TheVariants as variance
use Rattle.nts_model.specs.Terms.Trees.{Tree, kind_of}
use Rattle.nts_store.specs.declared.nodes.NodeId.{NodeId}
use Rattle.nts_store.specs.Growth.{tree_at}
use Rattle.nts_terms.specs.declared.handles.Goal.{Goal}
use Rattle.nts_terms.specs.declared.handles.ParamEnv.{ParamEnv}
use Rattle.nts_unify.specs.Entries.{Entries}
use Rattle.nts_unify.specs.Reading.{content_of}
use Rattle.nts_table.specs.Fresh.{IsFreshLike}
use Rattle.nts_variance.specs.declared.along.Relating.{Relating}
use Rattle.nts_solver_relating.specs.Sides.{AreGoalsOfPairs}

-- an alias and a term that it is to be equal to
abbrev pub equal_nodes : NodeId → NodeId → Relating
equal_nodes x v = record { variance = variance.Invariant; left = x; right = v }

-- the variable is the only new one, of the kind of the term, and the one goal asks that the two are equal
pub record IsEqualToNew (ts us : List Tree) (e f : Entries) (env : ParamEnv) (x v : NodeId) (gs : List Goal) : Type 0 where
  pub fresh : IsFreshLike (kind_of (tree_at ts x)) (tree_at us v) e f
  pub equal : AreGoalsOfPairs us (content_of us f) env (equal_nodes x v ∷ []) gs
