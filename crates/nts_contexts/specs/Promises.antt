-- What the calls of a context promise: one record for each family of calls.
use Rattle.std.specs.Global.{Vec}
use Rattle.std.specs.Prelude.{◌≡◌, ◌≢◌, List, None, All, Result, Ok, Err, IfOk, IfSome, OnOk, OnErr}
use Rattle.nts_model.specs.declared.labels.Variance.{Variance}
use Rattle.nts_model.specs.declared.labels.Variance.TheVariants as variance
use Rattle.nts_model.specs.Terms.Trees.{Tree}
use Rattle.nts_evaluation.specs.nts_meaning.specs.Telling.{Ruling}
use Rattle.nts_store.specs.declared.nodes.NodeId.{NodeId}
use Rattle.nts_store.specs.declared.fault.EvalError.{EvalError}
use Rattle.nts_store.specs.declared.fault.EvalError.TheVariants as error
use Rattle.nts_store.specs.Errors.{error_of}
use Rattle.nts_certainty.specs.declared.certainty.Certainty.{Certainty}
use Rattle.nts_certainty.specs.Certainties.{both}
use Rattle.nts_certainty.specs.declared.sources.GoalSource.{GoalSource}
use Rattle.nts_terms.specs.declared.handles.Goal.{Goal}
use Rattle.nts_terms.specs.declared.handles.ParamEnv.{ParamEnv}
use Rattle.nts_terms.specs.Signatures.{variances_in}
use Rattle.nts_solver_relating.specs.Sides.{ArePlainIn, AreMadeEqualIn, AreUnrelatedIn, IsRelatedIn, RefusesIn}
use Rattle.nts_evaluation.specs.nts_meaning.specs.Meant.{Rules, Always, IsProvedSince, ReachesBy}
use Rattle.nts_evaluation.specs.nts_trying.specs.Stopping.{RefusesAmong}
use Rattle.nts_evaluation.specs.nts_trying.specs.Stepping.{AreLeft, AreSettled}
use Rattle.nts_evaluation.specs.nts_trying.specs.declared.steps.AvailableDepth.TheVariants as available
use Rattle.nts_evaluation.specs.Counting.{AsksOnce, CountsSteps}
use Rattle.nts_contexts.specs.declared.context.EvalCtxt.{EvalCtxt}
use Rattle.nts_contexts.specs.Contexts.{KeepsContext, EvaluatedNothing, IsGoalOfContext, content_in}
use Rattle.nts_nested_goals.specs.Faults.{fault_after}
use Rattle.nts_nested_goals.specs.Related.{AddsTo, AddsRelated, AreEquatedIn}

-- the goals that were added to a context were asked, in any order and more than once; and one of them is refused after that
abbrev pub ReachesAdded : {H : Type 0} → Ruling → EvalCtxt H → EvalCtxt H → Type 0
ReachesAdded h a b = ReachesBy h a.table.now.mode a.cx.now.nodes a.table.now b.cx.now.nodes b.table.now a.state.now.nested_goals.items

abbrev pub RefusesOneAdded : {H : Type 0} → Ruling → EvalCtxt H → Type 0
RefusesOneAdded h a = RefusesAmong h a.table.now.mode a.cx.now.nodes (content_in a) a.state.now.nested_goals.items

-- they were asked in as many steps as it counts, each of them once in each step as long as it is left; and each step but the last found
-- something out
abbrev pub CountsAdded : {H X : Type 0} → Ruling → EvalCtxt H → EvalCtxt H → Result X EvalError → Type 0
CountsAdded h a b r =
    CountsSteps (AsksOnce h a.table.now.mode (available.Root a.state.now.root_depth)) a.cx.now.step_limit (a.cx.now, a.table.now) a.state.now.nested_goals.items b.state.now.last_steps (b.cx.now, b.table.now) b.state.now.nested_goals.items r

-- .. and then no goal was asked any more; what is answered rests on what they answered
pub record CountsBefore {H : Type 0} (Rests : Result Certainty EvalError → Type 0) (h : Ruling) (a b : EvalCtxt H) : Type 0 where
  pub between : EvalCtxt H
  pub answer : Result Certainty EvalError
  pub rests : Rests answer
  pub counts : CountsAdded h a between answer
  pub steps : b.state.now.last_steps ≡ between.state.now.last_steps
  pub left : b.state.now.nested_goals.items ≡ between.state.now.nested_goals.items
  pub table : b.table.now ≡ between.table.now

-- a certainty is that of both, another one and what goals answered
pub record IsOfBoth (shallow : Certainty) (answer : Result Certainty EvalError) (sure : Certainty) : Type 0 where
  pub goals : Certainty
  pub answered : answer ≡ Ok goals
  pub is : sure ≡ both shallow goals

-- the goals that were added to the context are evaluated in steps: some are left, and each other one is proved
pub record EvaluatesAdded {H : Type 0} {X : Type 0} (R : Rules) (a b : EvalCtxt H) (r : Result X EvalError) : Type 0 where
  pub left : AreLeft a.state.now.nested_goals.items b.state.now.nested_goals.items
  pub proved : Always R a.cx.now (λ s. OnOk r (AreSettled (λ z. IsProvedSince R.handler s a.table.now.mode b.cx.now.nodes b.table.now z.1) a.state.now.nested_goals.items b.state.now.nested_goals.items))
  pub faulted : IfSome a.state.now.fault (λ f. r ≡ Err (error_of f))

-- what stands for goals from that source is added to those of a context
abbrev pub AddsGoals : {H : Type 0} → EvalCtxt H → EvalCtxt H → GoalSource → List Goal → Type 0
AddsGoals a b s gs = AddsTo a.cx.now b.cx.now a.table.now b.table.now s gs a.state.now.nested_goals.items b.state.now.nested_goals.items

-- two values are related by a variance in a context, and the goals that this leaves are added; or they are refused
pub record RelatesIn {H : Type 0} (ready : List Tree → H → Type 0) (OfOneHead : Type 0) (a b : EvalCtxt H) (env : ParamEnv) (v : Variance) (x y : NodeId) (r : Result (Unit {0}) EvalError) : Type 0 where
  pub keeps : KeepsContext ready a b
  pub heads : OnOk r OfOneHead
  pub related : OnOk r (AddsRelated a.cx.now b.cx.now a.table.now b.table.now a.state.now b.state.now env v x y)
  -- invariantly, where no alias stands in the two, they are made equal, and no goal is left
  pub equal : ArePlainIn v a.cx.now.nodes a.table.now.entries x y → OnOk r (AreEquatedIn a.cx.now b.cx.now a.table.now b.table.now a.state.now b.state.now x y)
  pub no : r ≡ Err error.NoSolution → OfOneHead → RefusesIn (variances_in a.cx.now.declarations) a.cx.now.nodes a.table.now.entries v x y
  pub unequal : ArePlainIn v a.cx.now.nodes a.table.now.entries x y → r ≡ Err error.NoSolution → OfOneHead → AreUnrelatedIn a.cx.now.nodes a.table.now.entries x y
  -- no universe is asked for
  pub full : a.state.now.fault ≡ None → r ≢ Err error.Full
  pub goals : OnErr r (b.state.now.nested_goals.items ≡ a.state.now.nested_goals.items)
  pub err : OnErr r (b.table.now ≡ a.table.now)
  pub nothing : EvaluatedNothing a.state.now b.state.now
  pub fault : b.state.now.fault ≡ fault_after a.state.now.fault r
  pub faulted : IfSome a.state.now.fault (λ f. r ≡ Err (error_of f))

-- two values are made equal in a context, and the goals that this leaves are answered; or they are refused, and the table is as before
pub record EquatesIn {H : Type 0} (ready : List Tree → H → Type 0) (OfOneHead : Type 0) (a b : EvalCtxt H) (env : ParamEnv) (x y : NodeId) (r : Result (Vec Goal) EvalError) : Type 0 where
  pub keeps : KeepsContext ready a b
  pub posed : IfOk r (λ gs. All (IsGoalOfContext b) gs.items)
  pub goals : b.state.now.nested_goals.items ≡ a.state.now.nested_goals.items
  pub heads : OnOk r OfOneHead
  pub related : IfOk r (λ gs. IsRelatedIn (variances_in a.cx.now.declarations) a.cx.now.nodes b.cx.now.nodes a.table.now.entries b.table.now.entries env variance.Invariant x y gs.items)
  -- where no alias stands in the two, no goal is left
  pub equal : ArePlainIn variance.Invariant a.cx.now.nodes a.table.now.entries x y → IfOk r (λ gs. AreMadeEqualIn a.cx.now.nodes b.cx.now.nodes a.table.now.entries b.table.now.entries x y gs.items)
  pub no : r ≡ Err error.NoSolution → OfOneHead → RefusesIn (variances_in a.cx.now.declarations) a.cx.now.nodes a.table.now.entries variance.Invariant x y
  pub unequal : ArePlainIn variance.Invariant a.cx.now.nodes a.table.now.entries x y → r ≡ Err error.NoSolution → OfOneHead → AreUnrelatedIn a.cx.now.nodes a.table.now.entries x y
  -- no universe is asked for
  pub full : a.state.now.fault ≡ None → r ≢ Err error.Full
  pub err : OnErr r (b.table.now ≡ a.table.now)
  pub nothing : EvaluatedNothing a.state.now b.state.now
  pub fault : b.state.now.fault ≡ fault_after a.state.now.fault r
  pub faulted : IfSome a.state.now.fault (λ f. r ≡ Err (error_of f))
