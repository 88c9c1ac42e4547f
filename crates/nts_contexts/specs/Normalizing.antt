-- Terms that are normalized in a context.
use Rattle.std.specs.Prelude.{◌≡◌, ◌≤◌, List, None, Result, Ok, IsOk}
use Rattle.nts_model.specs.Terms.Trees.{Tree, kind_of}
use Rattle.nts_model.specs.Derivations.Handlers.{Handler}
use Rattle.nts_model.specs.Tables.Resolving.{deeply_resolved}
use Rattle.nts_store.specs.declared.nodes.NodeId.{NodeId}
use Rattle.nts_store.specs.declared.fault.EvalError.{EvalError}
use Rattle.nts_terms.specs.declared.handles.ParamEnv.{ParamEnv}
use Rattle.nts_evaluation.specs.nts_meaning.specs.Meant.{Rules, Always, rules_of, ruling_since}
use Rattle.nts_contexts.specs.declared.context.EvalCtxt.{EvalCtxt}
use Rattle.nts_nested_goals.specs.Related.{AddsEqualToNew}
use Rattle.nts_contexts.specs.Contexts.{KeepsContext, content_in, tree_in}
use Rattle.nts_contexts.specs.Promises.{EvaluatesAdded, ReachesAdded, RefusesOneAdded, CountsBefore}

-- two trees are both types, both consts, or of another kind both
abbrev pub AreOfOneKind : Tree → Tree → Type 0
AreOfOneKind s t = kind_of s ≡ kind_of t

-- the rules of a context's handler
abbrev pub rules_in : {H : Type 0} → (List Tree → H → Type 0) → (List Tree → H → Handler) → EvalCtxt H → Rules
rules_in ready handler c = rules_of ready handler c.handler.now

-- the context once that goal is added
pub record HasBegun {H : Type 0} (ready : List Tree → H → Type 0) (a b : EvalCtxt H) (env : ParamEnv) (x v : NodeId) : Type 0 where
  pub keeps : KeepsContext ready a b
  pub adds : AddsEqualToNew a.cx.now b.cx.now a.table.now.entries b.table.now.entries a.state.now b.state.now env x v
  pub sound : b.state.now.fault ≡ None

-- an alias is normalized: the goal that it is equal to a new variable is added, the goals are evaluated, and what the variable
-- is then is answered
pub record Normalizes {H : Type 0} (ready : List Tree → H → Type 0) (R : Rules) (a b : EvalCtxt H) (env : ParamEnv) (x r : NodeId) : Type 0 where
  pub between : EvalCtxt H
  pub variable : NodeId
  pub begun : HasBegun ready a between env x variable
  pub evaluates : EvaluatesAdded R between b (let answered : Result NodeId EvalError = Ok r in answered)
  pub is : tree_in b r ≡ deeply_resolved (content_in b) (tree_in b variable)
  -- it rests on what was asked, in as many steps as are counted, and no more than the store allows
  pub told : Always R between.cx.now (λ s. ReachesAdded (ruling_since R.handler s) between b)
  pub steps : b.state.now.last_steps ≤ between.cx.now.step_limit
  pub counts : Always R between.cx.now (λ s. CountsBefore IsOk (ruling_since R.handler s) between b)

-- an alias is asked to be equal to a new variable, and a goal of the context is refused
pub record RefusesNormal {H : Type 0} (ready : List Tree → H → Type 0) (R : Rules) (a : EvalCtxt H) (env : ParamEnv) (x : NodeId) : Type 0 where
  pub between : EvalCtxt H
  pub variable : NodeId
  pub begun : HasBegun ready a between env x variable
  pub refused : Always R between.cx.now (λ s. RefusesOneAdded (ruling_since R.handler s) between)
