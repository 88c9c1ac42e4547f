-- Goals of the store of the engine's own kinds, and what is known of them.
use Rattle.std.specs.Prelude.{◌≡◌, false, List, [], Option, Some, None}
use Rattle.nts_model.specs.declared.labels.ClauseHead.TheVariants as clause_head
use Rattle.nts_model.specs.declared.labels.PredicateHead.TheVariants as predicate_head
use Rattle.nts_model.specs.declared.labels.Label.TheVariants as label
use Rattle.nts_model.specs.Terms.Trees.{Tree, empty, node, any_label, is_alias, is_canonical, IsClosed}
use Rattle.nts_model.specs.Terms.Scoping.{IsWellBound}
use Rattle.nts_model.specs.Derivations.Related.{pair, unbound}
use Rattle.nts_model.specs.Derivations.Rules.{statement_of}
use Rattle.nts_model.specs.Derivations.Handlers.{Candidate, Handler, Judgements}
use Rattle.nts_theory.specs.RelatingCandidates.{HasPlainEquations}
use Rattle.nts_theory.specs.Affirming.{evaluatable, has_type, is_well_formed, SaysAffirmed, IsDenied, HasOwnWay}
use Rattle.nts_certainty.specs.declared.certainty.Certainty.TheVariants as certainty
use Rattle.nts_certainty.specs.declared.reruns.RerunCondition.TheVariants as rerun
use Rattle.nts_certainty.specs.declared.sources.GoalSource.TheVariants as source
use Rattle.nts_store.specs.Growth.{tree_at}
use Rattle.nts_terms.specs.declared.handles.Goal.{Goal}
use Rattle.nts_terms.specs.Handles.{HoldsTy, HoldsConst, HoldsTerm}
use Rattle.nts_candidates.specs.declared.data.Equation.{Equation}
use Rattle.nts_candidates.specs.declared.data.CandidateGoal.{CandidateGoal}
use Rattle.nts_candidates.specs.declared.data.CandidateData.{CandidateData}
use Rattle.nts_candidates.specs.Offered.{candidate_of}
use Rattle.nts_delegate.specs.Candidates.{IsCandidate}
use Rattle.nts_trying.specs.Outliving.{IsClosedEnv}
use Rattle.nts_trying.specs.declared.own.OwnGoal.{OwnGoal}
use Rattle.nts_trying.specs.declared.own.OwnGoal.TheVariants as own
use Rattle.nts_trying.specs.declared.own.Judged.{Judged}
use Rattle.nts_trying.specs.declared.own.Judged.TheVariants as judged

-- what such a goal states, and that its parts are of the store
abbrev pub tree_of_own : List Tree → OwnGoal → Tree
tree_of_own ts (own.DynCompatible i) = node (label.Predicate (predicate_head.DynCompatible i.number)) empty
tree_of_own ts (own.UnstableFeature f) = node (label.Clause (clause_head.UnstableFeature f)) empty
tree_of_own ts (own.ConstEvaluatable c) = evaluatable (tree_at ts c.node)
tree_of_own ts (own.ConstArgHasType c t) = has_type (tree_at ts c.node) (tree_at ts t.node)
tree_of_own ts (own.WellFormed t) = is_well_formed (tree_at ts t.node)

abbrev pub OwnFits : List Tree → OwnGoal → Type 0
OwnFits ts (own.ConstEvaluatable c) = HoldsConst ts c
OwnFits ts (own.ConstArgHasType c t) = HoldsConst ts c × HoldsTy ts t
OwnFits ts (own.WellFormed t) = HoldsTerm ts t
OwnFits ts o = Unit {0}

-- a goal that states that: it binds nothing, and it and its environment are closed
pub record IsOwnGoal (ts : List Tree) (g : Goal) (o : OwnGoal) : Type 0 where
  pub binds_nothing : tree_at ts g.predicate.node ≡ unbound (tree_of_own ts o)
  pub fits : OwnFits ts o
  pub closed : IsClosed (tree_of_own ts o)
  pub environment : IsClosedEnv (tree_at ts g.param_env.node)

-- a statement that the engine answers by itself, of no region
abbrev pub IsOwnStatement : Tree → Type 0
IsOwnStatement (node (label.Predicate (predicate_head.DynCompatible i)) ts) = Unit {0}
IsOwnStatement (node (label.Clause (clause_head.UnstableFeature f)) ts) = Unit {0}
IsOwnStatement (node (label.Clause clause_head.ConstEvaluatable) ts) = Unit {0}
IsOwnStatement (node (label.Clause clause_head.ConstArgHasType) ts) = Unit {0}
IsOwnStatement (node (label.Clause clause_head.WellFormed) ts) = Unit {0}
IsOwnStatement t = ⊥

-- a goal that states one, as trees: it binds nothing, and it and its environment are closed
pub record StatesOwn (e p : Tree) : Type 0 where
  pub statement : Tree
  pub binds_nothing : p ≡ unbound statement
  pub own : IsOwnStatement statement
  pub closed : IsClosed statement
  pub environment : IsClosedEnv e

-- the goal is one, and this is what it states; or it is none
abbrev pub SaysOwn : List Tree → Goal → Option OwnGoal → Type 0
SaysOwn ts g (Some o) = IsOwnGoal ts g o
SaysOwn ts g None = StatesOwn (tree_at ts g.param_env.node) (tree_at ts g.predicate.node) → ⊥

-- a goal in whose terms no position of a canonical value stands, and each bound variable is of the list of its binder
pub record IsPlainGoal (ts : List Tree) (g : Goal) : Type 0 where
  pub no_positions : any_label is_canonical (pair (tree_at ts g.param_env.node) (tree_at ts g.predicate.node)) ≡ false
  pub well_bound : IsWellBound (pair (tree_at ts g.param_env.node) (tree_at ts g.predicate.node))

-- a candidate that has no variables, and is certain where its equations and its goals hold
pub record IsPlainWay (c : CandidateData) (qs : List Equation) (gs : List CandidateGoal) : Type 0 where
  pub fresh : c.fresh.items ≡ []
  pub equations : c.equations.items ≡ qs
  pub constraints : c.region_constraints.items ≡ []
  pub hidden : c.hidden_types.items ≡ []
  pub goals : c.goals.items ≡ gs
  pub sure : c.certainty ≡ certainty.Yes
  pub accesses : c.accesses ≡ rerun.Never

-- a goal that is asked for by its own sake
abbrev pub misc_goal : Goal → CandidateGoal
misc_goal g = record { source = source.Misc; goal = g }

-- what is known of the goal is so: it holds, it does not, or it does where the candidate does, as its one way, whose equations relate no
-- aliases
abbrev pub IsJudgedBy : Judgements → List Tree → Goal → Judged → Type 0
IsJudgedBy j ts g judged.Yes = SaysAffirmed j (tree_at ts g.param_env.node) (tree_at ts g.predicate.node)
IsJudgedBy j ts g judged.No = IsDenied j (statement_of (tree_at ts g.predicate.node))
IsJudgedBy j ts g (judged.Way b) = HasOwnWay j (tree_at ts g.param_env.node) (tree_at ts g.predicate.node) (candidate_of ts b.value) × IsCandidate ts g b.value × HasPlainEquations (candidate_of ts b.value)
IsJudgedBy j ts g judged.Unknown = Unit {0}

abbrev pub IsJudgedSo : Handler → List Tree → Goal → Judged → Type 0
IsJudgedSo h ts g x = IsJudgedBy h.judges ts g x

-- the goal is known to have one way
abbrev pub IsWay : Judged → Type 0
IsWay (judged.Way b) = Unit {0}
IsWay x = ⊥

-- .. and where the handler affirms or denies the goal, that is known; so is it that the goal has one way, if that relates no aliases
pub record IsAllJudged (j : Judgements) (ts : List Tree) (g : Goal) (x : Judged) : Type 0 where
  pub affirmed : SaysAffirmed j (tree_at ts g.param_env.node) (tree_at ts g.predicate.node) → x ≡ judged.Yes
  pub denied : IsDenied j (statement_of (tree_at ts g.predicate.node)) → x ≡ judged.No
  pub way : (y : Candidate) → HasOwnWay j (tree_at ts g.param_env.node) (tree_at ts g.predicate.node) y → HasPlainEquations y → IsWay x

abbrev pub IsAllJudgedSo : Handler → List Tree → Goal → Judged → Type 0
IsAllJudgedSo h ts g x = IsAllJudged h.judges ts g x
