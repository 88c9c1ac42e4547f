-- What a handler offered stays offered where a store grows, and stands beside what another one offers.
use Rattle.std.proofs.Common.{◌≡◌, ◌⊎◌, List, [], ◌∷◌, ◌++◌, map, arith, refl, ap, sym, subst, ◌∙◌, append_assoc, append-nil}
use Rattle.nts_model.specs.declared.labels.Sort.{Sort}
use Rattle.nts_model.specs.Terms.Trees.{Tree}
use Rattle.nts_model.specs.Terms.Substitutions.{Occurs}
use Rattle.nts_model.specs.Derivations.Related.{pair}
use Rattle.nts_model.specs.Derivations.Handlers.{Candidate, IsFixed}
use Rattle.nts_store.specs.declared.nodes.NodeId.{NodeId}
use Rattle.nts_store.specs.Growth.{tree_at, Extends}
use Rattle.nts_terms.specs.declared.handles.Goal.{Goal}
use Rattle.nts_terms.specs.Handles.{HoldsGoal}
use Rattle.nts_delegate.specs.ClausesKept.{Holds-kept}
use Rattle.std.proofs.lemmas.List.{map-append}
use Rattle.nts_delegate.specs.Candidates.{IsOverIn, AreEquations, AreRegionConstraints, AreNested, IsCandidate, AreCandidates}
use Rattle.nts_candidates.specs.Offered.{equation_of, constraint_of, premise_of, hidden_of, candidate_of, candidates_of}
use Rattle.nts_delegate.specs.Relevant.{LeavesOut}
use Rattle.nts_delegate.specs.Relevant.LeavesOut.{none, offered, left_out}
use Rattle.nts_candidates.specs.declared.data.Equation.{Equation}
use Rattle.nts_candidates.specs.declared.data.RegionConstraint.{RegionConstraint}
use Rattle.nts_candidates.specs.declared.data.CandidateGoal.{CandidateGoal}
use Rattle.nts_candidates.specs.declared.data.CandidateData.{CandidateData}

-- the trees of a goal
pub record IsSameGoal (a b : List Tree) (g : Goal) : Type 0 where
  pub env : tree_at b g.param_env.node ≡ tree_at a g.param_env.node
  pub predicate : tree_at b g.predicate.node ≡ tree_at a g.predicate.node

pub same_goal : {a b : List Tree} {g : Goal} → HoldsGoal a g → Extends a b → IsSameGoal a b g
same_goal {a} {b} {g} h e =
    record { env = e.kept g.param_env.node h.env.within; predicate = e.kept g.predicate.node h.predicate.within }

pair_same : {a b : List Tree} {g : Goal} → IsSameGoal a b g → pair (tree_at a g.param_env.node) (tree_at a g.predicate.node) ≡ pair (tree_at b g.param_env.node) (tree_at b g.predicate.node)
pair_same s = cc (sym s.env, sym s.predicate)

over : {a b : List Tree} {fresh : List Sort} {g : Goal} {t : NodeId} → IsSameGoal a b g → Extends a b → IsOverIn a fresh g t → IsOverIn b fresh g t
over {a} {b} {fresh} {g} {t} s e o =
    let same = e.kept t o.within in
    record {
      within = omega (arith, e.longer, o.within);
      names = rw same o.names;
      leaves = λ l x. subst (λ k. Occurs l k ⊎ IsFixed l) (pair_same s) (o.leaves l (subst (Occurs l) same x));
      closed = rw same o.closed;
      well_bound = rw same o.well_bound;
    }

equations : {a b : List Tree} (fresh : List Sort) {g : Goal} (qs : List Equation) → IsSameGoal a b g → Extends a b → AreEquations a fresh g qs → AreEquations b fresh g qs
equations fresh [] s e h = tt
equations fresh (q ∷ qs) s e h = (
  record {
    lhs = over s e h.0.lhs;
    rhs = over s e h.0.rhs;
    argument = rw (e.kept q.lhs.node h.0.lhs.within) h.0.argument;
  },
  equations fresh qs s e h.1,
)

constraints : {a b : List Tree} (fresh : List Sort) {g : Goal} (xs : List RegionConstraint) → IsSameGoal a b g → Extends a b → AreRegionConstraints a fresh g xs → AreRegionConstraints b fresh g xs
constraints fresh [] s e h = tt
constraints fresh (x ∷ xs) s e h = (
  record {
    left = over s e h.0.left;
    right = over s e h.0.right;
    left_sort = rw (e.kept x.left.node h.0.left.within) h.0.left_sort;
    right_sort = rw (e.kept x.right.node h.0.right.within) h.0.right_sort;
  },
  constraints fresh xs s e h.1,
)

goals : {a b : List Tree} (fresh : List Sort) {g : Goal} (hs : List CandidateGoal) → IsSameGoal a b g → Extends a b → AreNested a fresh g hs → AreNested b fresh g hs
goals fresh [] s e h = tt
goals fresh (x ∷ xs) s e h = (
  record {
    environment = h.0.environment;
    holds = record { env = Holds-kept h.0.holds.env e; predicate = Holds-kept h.0.holds.predicate e };
    env = over s e h.0.env;
    predicate = over s e h.0.predicate;
  },
  goals fresh xs s e h.1,
)

pub AreCandidates-kept : {a b : List Tree} {g : Goal} (cs : List CandidateData) → HoldsGoal a g → Extends a b → AreCandidates a g cs → AreCandidates b g cs
AreCandidates-kept [] hold e h = tt
AreCandidates-kept (c ∷ cs) hold e h =
    let s = same_goal hold e in (
      record {
        hidden = h.0.hidden;
        accesses = h.0.accesses;
        equations = equations c.fresh.items c.equations.items s e h.0.equations;
        constraints = constraints c.fresh.items c.region_constraints.items s e h.0.constraints;
        goals = goals c.fresh.items c.goals.items s e h.0.goals;
      },
      AreCandidates-kept cs hold e h.1,
    )

-- .. as trees
equations_same : {a b : List Tree} (fresh : List Sort) (g : Goal) (qs : List Equation) → Extends a b → AreEquations a fresh g qs → map (equation_of b) qs ≡ map (equation_of a) qs
equations_same fresh g [] e h = refl
equations_same fresh g (q ∷ qs) e h =
    let left = e.kept q.lhs.node h.0.lhs.within in
    let right = e.kept q.rhs.node h.0.rhs.within in
    cc (left, right, equations_same fresh g qs e h.1)

constraints_same : {a b : List Tree} (fresh : List Sort) (g : Goal) (xs : List RegionConstraint) → Extends a b → AreRegionConstraints a fresh g xs → map (constraint_of b) xs ≡ map (constraint_of a) xs
constraints_same fresh g [] e h = refl
constraints_same fresh g (x ∷ xs) e h =
    let left = e.kept x.left.node h.0.left.within in
    let right = e.kept x.right.node h.0.right.within in
    cc (left, right, constraints_same fresh g xs e h.1)

goals_same : {a b : List Tree} (fresh : List Sort) (g : Goal) (xs : List CandidateGoal) → Extends a b → AreNested a fresh g xs → map (premise_of b) xs ≡ map (premise_of a) xs
goals_same fresh g [] e h = refl
goals_same fresh g (x ∷ xs) e h =
    let env = e.kept x.goal.param_env.node h.0.env.within in
    let predicate = e.kept x.goal.predicate.node h.0.predicate.within in
    cc (env, predicate, goals_same fresh g xs e h.1)

candidate_same : {a b : List Tree} {g : Goal} (c : CandidateData) → Extends a b → IsCandidate a g c → candidate_of b c ≡ candidate_of a c
candidate_same {a} {b} {g} c e h =
    let qs = equations_same c.fresh.items g c.equations.items e h.equations in
    let xs = constraints_same c.fresh.items g c.region_constraints.items e h.constraints in
    let gs = goals_same c.fresh.items g c.goals.items e h.goals in
    let hs : map (hidden_of b) c.hidden_types.items ≡ map (hidden_of a) c.hidden_types.items = ap (map (hidden_of b)) h.hidden ∙ sym (ap (map (hidden_of a)) h.hidden) in
    cc (qs, xs, gs, hs)

pub candidates_of-kept : {a b : List Tree} (g : Goal) (cs : List CandidateData) → Extends a b → AreCandidates a g cs → candidates_of b cs ≡ candidates_of a cs
candidates_of-kept g [] e h = refl
candidates_of-kept g (c ∷ cs) e h = cc (candidate_same c e h.0, candidates_of-kept g cs e h.1)

-- one list behind the other
pub AreCandidates-append : (ts : List Tree) (g : Goal) (cs ds : List CandidateData) → AreCandidates ts g cs → AreCandidates ts g ds → AreCandidates ts g (cs ++ ds)
AreCandidates-append ts g [] ds h k = k
AreCandidates-append ts g (c ∷ cs) ds h k = (h.0, AreCandidates-append ts g cs ds h.1 k)

pub LeavesOut-append : {xs ys us vs : List Candidate} → LeavesOut xs ys → LeavesOut us vs → LeavesOut (xs ++ us) (ys ++ vs)
LeavesOut-append {xs} {ys} h none =
    subst (λ l. LeavesOut l (ys ++ [])) (sym (append-nil xs)) (subst (LeavesOut xs) (sym (append-nil ys)) h)
LeavesOut-append {xs} {ys} h (offered {xs = us} {ys = vs} x k) =
    subst (λ l. LeavesOut l (ys ++ (vs ++ x ∷ []))) (append_assoc xs us (x ∷ [])) (subst (LeavesOut ((xs ++ us) ++ x ∷ [])) (append_assoc ys vs (x ∷ [])) (offered x (LeavesOut-append h k)))
LeavesOut-append {xs} {ys} h (left_out {xs = us} {ys = vs} x k i) =
    subst (λ l. LeavesOut l (ys ++ vs)) (append_assoc xs us (x ∷ [])) (left_out x (LeavesOut-append h k) i)

pub HoldsGoal-kept : {a b : List Tree} {g : Goal} → HoldsGoal a g → Extends a b → HoldsGoal b g
HoldsGoal-kept h e = record { env = Holds-kept h.env e; predicate = Holds-kept h.predicate e }

-- what two handlers offer, one after the other
pub both_offered : (a b : List Tree) (g : Goal) (cs ds : List CandidateData) (xs us ys : List Candidate) → Extends a b → AreCandidates a g cs → candidates_of a cs ≡ xs → us ≡ xs → candidates_of b ds ≡ ys → candidates_of b (cs ++ ds) ≡ us ++ ys
both_offered a b g cs ds xs us ys e h p q r =
    let first : candidates_of b cs ≡ us = candidates_of-kept g cs e h ∙ p ∙ sym q in
    map-append (candidate_of b) cs ds ∙ cc (first, r)

pub both_left : (a b : List Tree) (g : Goal) (cs ds : List CandidateData) (xs us ys : List Candidate) → Extends a b → AreCandidates a g cs → LeavesOut xs (candidates_of a cs) → us ≡ xs → LeavesOut ys (candidates_of b ds) → LeavesOut (us ++ ys) (candidates_of b (cs ++ ds))
both_left a b g cs ds xs us ys e h p q r =
    let kept : LeavesOut us (candidates_of b cs) = rw (candidates_of-kept g cs e h) (rw q p) in
    rw (map-append (candidate_of b) cs ds) (LeavesOut-append kept r)
