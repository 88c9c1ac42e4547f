-- What a handler may offer for a goal.
use Rattle.std.specs.Prelude.{◌≡◌, ◌⊎◌, List, [], ◌∷◌, Some}
use Rattle.nts_model.specs.declared.labels.Sort.{Sort}
use Rattle.nts_model.specs.declared.labels.Leaf.{Leaf}
use Rattle.nts_model.specs.Terms.Trees.{Tree, kind_of, of_sort, any_argument, FitsPlace, IsClosed}
use Rattle.nts_model.specs.Terms.Scoping.{IsWellBound}
use Rattle.nts_model.specs.Tables.Contents.{Content}
use Rattle.nts_model.specs.Tables.Resolving.{Knows}
use Rattle.nts_model.specs.Terms.Substitutions.{Occurs}
use Rattle.nts_model.specs.Derivations.Related.{pair}
use Rattle.nts_store.specs.declared.nodes.NodeId.{NodeId}
use Rattle.nts_terms.specs.declared.handles.Goal.{Goal}
use Rattle.nts_candidates.specs.nts_certainty.specs.declared.reruns.RerunCondition.TheVariants as rerun
use Rattle.nts_store.specs.Growth.{tree_at, IsIn}
use Rattle.nts_terms.specs.Handles.{HoldsGoal}
use Rattle.nts_model.specs.Derivations.Handlers.{NamesFresh, IsFixed}
use Rattle.nts_model.specs.Derivations.Handlers as handlers
use Rattle.nts_model.specs.Tables.Recording.{left_kind}
use Rattle.nts_model.specs.declared.labels.Sort.TheVariants as sort
use Rattle.nts_candidates.specs.declared.data.Equation.{Equation}
use Rattle.nts_candidates.specs.declared.data.RegionConstraint.{RegionConstraint}
use Rattle.nts_candidates.specs.declared.data.CandidateGoal.{CandidateGoal}
use Rattle.nts_candidates.specs.declared.data.CandidateData.{CandidateData}

-- .. that handlers are asked
pub record IsAskedIn (ts : List Tree) (g : Goal) : Type 0 where
  pub holds : HoldsGoal ts g
  pub asked : handlers.IsAsked (tree_at ts g.param_env.node) (tree_at ts g.predicate.node)

-- the table has all variables of the goal
pub record KnowsGoal (ts : List Tree) (c : Content) (g : Goal) : Type 0 where
  pub env : Knows c (tree_at ts g.param_env.node)
  pub predicate : Knows c (tree_at ts g.predicate.node)

-- a closed term over the fresh variables and the goal: it has no other leaves than the goal, but for regions that stay
-- themselves, and its binders list what they bind
pub record IsOverIn (ts : List Tree) (fresh : List Sort) (g : Goal) (t : NodeId) : Type 0 where
  pub within : IsIn ts t
  pub names : NamesFresh fresh (tree_at ts t)
  pub leaves : (l : Leaf) → Occurs l (tree_at ts t) → Occurs l (pair (tree_at ts g.param_env.node) (tree_at ts g.predicate.node)) ⊎ IsFixed l
  pub closed : IsClosed (tree_at ts t)
  pub well_bound : IsWellBound (tree_at ts t)

-- an equation between arguments
pub record IsEquation (ts : List Tree) (fresh : List Sort) (g : Goal) (q : Equation) : Type 0 where
  pub lhs : IsOverIn ts fresh g q.lhs.node
  pub rhs : IsOverIn ts fresh g q.rhs.node
  pub argument : FitsPlace any_argument (kind_of (tree_at ts q.lhs.node))

abbrev pub AreEquations : List Tree → List Sort → Goal → List Equation → Type 0
AreEquations ts fresh g [] = Unit {0}
AreEquations ts fresh g (q ∷ qs) = IsEquation ts fresh g q × AreEquations ts fresh g qs

pub record IsRegionConstraint (ts : List Tree) (fresh : List Sort) (g : Goal) (x : RegionConstraint) : Type 0 where
  pub left : IsOverIn ts fresh g x.left.node
  pub right : IsOverIn ts fresh g x.right.node
  pub left_sort : kind_of (tree_at ts x.left.node) ≡ Some (left_kind x.relation)
  pub right_sort : kind_of (tree_at ts x.right.node) ≡ Some (of_sort sort.Region)

abbrev pub AreRegionConstraints : List Tree → List Sort → Goal → List RegionConstraint → Type 0
AreRegionConstraints ts fresh g [] = Unit {0}
AreRegionConstraints ts fresh g (x ∷ xs) = IsRegionConstraint ts fresh g x × AreRegionConstraints ts fresh g xs

-- a goal that is asked in the same environment
pub record IsNestedIn (ts : List Tree) (fresh : List Sort) (g h : Goal) : Type 0 where
  pub environment : h.param_env ≡ g.param_env
  pub holds : HoldsGoal ts h
  pub env : IsOverIn ts fresh g h.param_env.node
  pub predicate : IsOverIn ts fresh g h.predicate.node

abbrev pub AreNested : List Tree → List Sort → Goal → List CandidateGoal → Type 0
AreNested ts fresh g [] = Unit {0}
AreNested ts fresh g (h ∷ hs) = IsNestedIn ts fresh g h.goal × AreNested ts fresh g hs

-- a candidate of the store for a goal; until hidden types exist it has none, and rests on none
pub record IsCandidate (ts : List Tree) (g : Goal) (c : CandidateData) : Type 0 where
  pub hidden : c.hidden_types.items ≡ []
  pub accesses : c.accesses ≡ rerun.Never
  pub equations : AreEquations ts c.fresh.items g c.equations.items
  pub constraints : AreRegionConstraints ts c.fresh.items g c.region_constraints.items
  pub goals : AreNested ts c.fresh.items g c.goals.items

abbrev pub AreCandidates : List Tree → Goal → List CandidateData → Type 0
AreCandidates ts g [] = Unit {0}
AreCandidates ts g (c ∷ cs) = IsCandidate ts g c × AreCandidates ts g cs
