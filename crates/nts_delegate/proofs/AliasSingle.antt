-- What is offered for a rigid alias, and for a projection.
use Rattle.std.proofs.Common.{◌≡◌, ◌⊎◌, inl, false, List, [], ◌∷◌, map, Some, ap, sym, ◌∙◌, subst}
use Rattle.nts_model.specs.declared.labels.Sort.{Sort}
use Rattle.nts_model.specs.declared.labels.Variance.TheVariants as variance
use Rattle.nts_model.specs.declared.labels.AliasRelationDirection.TheVariants as direction
use Rattle.nts_model.specs.declared.labels.PredicateHead.TheVariants as predicate
use Rattle.nts_model.specs.declared.labels.ListHead.TheVariants as list
use Rattle.nts_model.specs.declared.labels.Label.TheVariants as label
use Rattle.nts_model.specs.Terms.Trees.{Tree, empty, more, node, children, any_label, is_canonical}
use Rattle.nts_model.specs.Terms.Substitutions.{Occurs}
use Rattle.nts_model.specs.Derivations.Related.{alias, alias_label, alias_goal, pair, no_sorts}
use Rattle.nts_model.specs.Derivations.Rules.{alike}
use Rattle.nts_model.specs.Derivations.Handlers.{IsFixed, IsOver}
use Rattle.nts_store.specs.declared.nodes.NodeId.{NodeId}
use Rattle.nts_store.specs.Growth.{tree_at, IsIn, Extends}
use Rattle.nts_terms.specs.declared.handles.Goal.{Goal}
use Rattle.nts_terms.specs.declared.handles.AliasTerm.{AliasTerm}
use Rattle.nts_terms.specs.Handles.{HoldsArgs, HoldsPredicate, alias_head}
use Rattle.nts_terms.specs.Kinds.{tree_of_alias}
use Rattle.nts_terms.proofs.Standing.{args_tree}
use Rattle.nts_candidates.specs.declared.data.Equation.{Equation}
use Rattle.nts_candidates.specs.declared.data.EquationKind.TheVariants as equation
use Rattle.nts_candidates.specs.declared.data.CandidateGoal.{CandidateGoal}
use Rattle.nts_candidates.specs.declared.data.CandidateData.{CandidateData}
use Rattle.nts_candidates.specs.nts_certainty.specs.declared.certainty.Certainty.TheVariants as certainty
use Rattle.nts_candidates.specs.nts_certainty.specs.declared.sources.GoalSource.TheVariants as source
use Rattle.nts_candidates.specs.nts_certainty.specs.declared.reruns.RerunCondition.TheVariants as rerun
use Rattle.nts_candidates.specs.nts_certainty.specs.Accesses.{access_of}
use Rattle.nts_candidates.specs.Offered.{certainty_of, source_of, equation_as, equation_of, constraint_of, hidden_of, premise_of, candidate_of}
use Rattle.nts_delegate.specs.Candidates.{IsAskedIn, IsOverIn, IsCandidate}
use Rattle.nts_delegate.specs.ClauseHandlers.{AliasAsked, normalization_of, projection_of, as_it_stands, alias_is, projected}
use Rattle.nts_delegate.specs.AliasGoals.{asked_to_normalize, asked_to_project}
use Rattle.nts_delegate.specs.AliasRows.{alias_over, related_over}
use Rattle.nts_delegate.specs.ClausesKept.{Holds-kept}
use Rattle.nts_delegate.specs.OwnTerms.{names_nothing}
use Rattle.nts_delegate.specs.Keeping.{IsSameGoal, same_goal}

-- a term of a store that grew, over a goal of the store
over_in : {a b : List Tree} {fresh : List Sort} {g : Goal} (n : NodeId) (t : Tree) → IsSameGoal a b g → IsIn b n → tree_at b n ≡ t → IsOver fresh (tree_at a g.param_env.node) (tree_at a g.predicate.node) t → IsOverIn b fresh g n
over_in {a} {b} {fresh} {g} n t s w e o =
    let same : pair (tree_at a g.param_env.node) (tree_at a g.predicate.node) ≡ pair (tree_at b g.param_env.node) (tree_at b g.predicate.node) = cc (sym s.env, sym s.predicate) in
    record {
      within = w;
      names = rw e o.names;
      leaves = λ l x. subst (λ k. Occurs l k ⊎ IsFixed l) same (o.leaves l (subst (Occurs l) e x));
      closed = rw e o.closed;
      well_bound = rw e o.well_bound;
    }

-- the environment of the goal
whole_over : {a b : List Tree} {g : Goal} → IsSameGoal a b g → IsIn b g.param_env.node → any_label is_canonical (tree_at a g.param_env.node) ≡ false → IsAskedIn a g → IsOverIn b [] g g.param_env.node
whole_over {a} {b} {g} s w n k =
    let asked = k.asked in
    over_in g.param_env.node (tree_at a g.param_env.node) s w s.env (record {
      names = names_nothing [] (tree_at a g.param_env.node) n;
      leaves = λ l x. inl (inl x);
      formed = asked.formed.0;
      closed = asked.closed.0;
      well_bound = asked.well_bound.0;
    })

-- one equation, of the goal's term with the alias
pub record IsRigidOffer (b : List Tree) (w : AliasAsked) (d : CandidateData) : Type 0 where
  pub fresh : d.fresh.items ≡ []
  pub asks : Equation
  pub equations : d.equations.items ≡ asks ∷ []
  pub kind : asks.kind ≡ equation.Structural
  pub left_in : IsIn b asks.lhs.node
  pub right_in : IsIn b asks.rhs.node
  pub left : tree_at b asks.lhs.node ≡ w.term
  pub right : tree_at b asks.rhs.node ≡ alias w.head w.parts
  pub constraints : d.region_constraints.items ≡ []
  pub hidden : d.hidden_types.items ≡ []
  pub goals : d.goals.items ≡ []
  pub certainty : d.certainty ≡ certainty.Yes
  pub accesses : d.accesses ≡ rerun.Never

pub rigid_read : (b : List Tree) (w : AliasAsked) (d : CandidateData) → IsRigidOffer b w d → candidate_of b d ≡ as_it_stands w
rigid_read b w d o =
    let asks : equation_of b o.asks ≡ alike w.term (alias w.head w.parts) =
    ap (λ k. equation_as k (tree_at b o.asks.lhs.node) (tree_at b o.asks.rhs.node)) o.kind ∙ ap (λ t. alike t (tree_at b o.asks.rhs.node)) o.left ∙ ap (alike w.term) o.right in
    let equations = ap (map (equation_of b)) o.equations ∙ ap (λ q. q ∷ []) asks in
    let goals = ap (map (premise_of b)) o.goals in
    let constraints = ap (map (constraint_of b)) o.constraints in
    let hidden = ap (map (hidden_of b)) o.hidden in
    cc (o.fresh, equations, goals, constraints, hidden, ap certainty_of o.certainty, ap access_of o.accesses)

pub rigid_is_candidate : (a b : List Tree) (g : Goal) (w : AliasAsked) (d : CandidateData) → Extends a b → IsAskedIn a g → normalization_of (tree_at a g.predicate.node) ≡ Some w → IsRigidOffer b w d → IsCandidate b g d
rigid_is_candidate a b g w d e k n o =
    let env = tree_at a g.param_env.node in
    let p = tree_at a g.predicate.node in
    let asked = asked_to_normalize env p w k.asked n in
    let s = same_goal k.holds e in
    let parts = asked.parts.parts [] in
    let term = asked.parts.term [] in
    let itself = alias_over [] env p w.head w.parts asked.formed.fits parts in
    record {
      hidden = o.hidden;
      accesses = o.accesses;
      equations = rw (o.fresh, o.equations) (record { lhs = over_in o.asks.lhs.node w.term s o.left_in o.left term; rhs = over_in o.asks.rhs.node (alias w.head w.parts) s o.right_in o.right itself; argument = rw (o.left, asked.formed.kind) tt }, tt);
      constraints = rw o.constraints tt;
      goals = rw o.goals tt;
    }

-- one goal, that the alias is related with the goal's term
pub record IsProjectedOffer (b : List Tree) (g : Goal) (w : AliasAsked) (d : CandidateData) : Type 0 where
  pub fresh : d.fresh.items ≡ []
  pub equations : d.equations.items ≡ []
  pub asks : CandidateGoal
  pub goals : d.goals.items ≡ asks ∷ []
  pub source : asks.source ≡ source.Misc
  pub environment : asks.goal.param_env ≡ g.param_env
  pub holds : HoldsPredicate b asks.goal.predicate
  pub predicate : tree_at b asks.goal.predicate.node ≡ alias_goal variance.Invariant (alias w.head w.parts) w.term
  pub constraints : d.region_constraints.items ≡ []
  pub hidden : d.hidden_types.items ≡ []
  pub certainty : d.certainty ≡ certainty.Yes
  pub accesses : d.accesses ≡ rerun.Never

pub projected_read : (a b : List Tree) (g : Goal) (w : AliasAsked) (d : CandidateData) → IsSameGoal a b g → IsProjectedOffer b g w d → candidate_of b d ≡ projected (tree_at a g.param_env.node) w
projected_read a b g w d s o =
    let environment : tree_at b o.asks.goal.param_env.node ≡ tree_at a g.param_env.node = ap (λ x. tree_at b x.node) o.environment ∙ s.env in
    let asks : premise_of b o.asks ≡ alias_is (tree_at a g.param_env.node) w = cc (ap source_of o.source, environment, o.predicate) in
    let goals = ap (map (premise_of b)) o.goals ∙ ap (λ q. q ∷ []) asks in
    let equations = ap (map (equation_of b)) o.equations in
    let constraints = ap (map (constraint_of b)) o.constraints in
    let hidden = ap (map (hidden_of b)) o.hidden in
    cc (o.fresh, equations, goals, constraints, hidden, ap certainty_of o.certainty, ap access_of o.accesses)

pub projected_is_candidate : (a b : List Tree) (g : Goal) (w : AliasAsked) (d : CandidateData) → Extends a b → IsAskedIn a g → projection_of (tree_at a g.predicate.node) ≡ Some w → IsProjectedOffer b g w d → IsCandidate b g d
projected_is_candidate a b g w d e k n o =
    let env = tree_at a g.param_env.node in
    let p = tree_at a g.predicate.node in
    let asked = asked_to_project env p w k.asked n in
    let s = same_goal k.holds e in
    let parts = asked.parts.parts [] in
    let term = asked.parts.term [] in
    let related = related_over [] env p w.head w.parts w.term asked.formed.fits asked.formed.kind parts term in
    let whole = whole_over s (Holds-kept k.holds.env e).within asked.parts.environment k in
    record {
      hidden = o.hidden;
      accesses = o.accesses;
      equations = rw (o.fresh, o.equations) tt;
      constraints = rw o.constraints tt;
      goals = rw (o.fresh, o.goals) (
        record {
          environment = o.environment;
          holds = record { env = rw o.environment (Holds-kept k.holds.env e); predicate = o.holds };
          env = rw o.environment whole;
          predicate = over_in o.asks.goal.predicate.node (alias_goal variance.Invariant (alias w.head w.parts) w.term) s o.holds.within o.predicate related;
        },
        tt,
      );
    }

-- an alias that was made
pub alias_made : (a : List Tree) (w : AliasTerm) (t : Tree) → HoldsArgs a w.args → t ≡ tree_of_alias a w → t ≡ alias (alias_head w.def_id) (children (tree_at a w.args.node))
alias_made a w t h e =
    e ∙ ap (λ x. node (alias_label (alias_head w.def_id)) (more x empty)) (args_tree (tree_at a w.args.node) h.fits)

-- the goal that was made of a list of no sorts and two terms
pub related_made : (t s x y x' y' : Tree) → t ≡ node (label.List list.Binder) (pair s (node (label.Predicate (predicate.AliasRelate direction.Equate)) (pair x y))) → s ≡ no_sorts → x ≡ x' → y ≡ y' → t ≡ alias_goal variance.Invariant x' y'
related_made t s x y x' y' e sorts left right = cc
