-- Equations of a candidate that relate aliases: which they are, the lists of their sides, and what relating these leaves.
use Rattle.std.proofs.Common.{◌≡◌, ◌⊎◌, inl, inr, ℕ, zero, suc, ◌+◌, ◌<◌, Bool, true, false, List, [], ◌∷◌, ◌++◌, map, length, get_or, Option, Some, refl, sym, ap, ◌∙◌, subst, arith}
use Rattle.std.specs.Prelude.{◌&&◌, ◌||◌, if◌then◌else◌}
use Rattle.nts_model.specs.declared.labels.Sort.{Sort}
use Rattle.nts_model.specs.declared.labels.Leaf.{Leaf}
use Rattle.nts_model.specs.declared.labels.ListHead.TheVariants as list
use Rattle.nts_model.specs.declared.labels.Label.{Label}
use Rattle.nts_model.specs.declared.labels.Label.TheVariants as label
use Rattle.nts_model.specs.declared.labels.Variance.TheVariants as variance
use Rattle.nts_model.specs.Terms.Trees.{Tree, empty, more, node, kind_of, NodeKind, of_sort, any_label, is_alias, any_argument, FitsPlace, AllFit, IsClosed, row_length}
use Rattle.nts_model.specs.Terms.Scoping.{IsWellBound}
use Rattle.nts_model.specs.Terms.Substitutions.{Occurs, filled}
use Rattle.nts_model.specs.Derivations.Related.{pair}
use Rattle.nts_model.specs.Derivations.Rules.{Equation}
use Rattle.nts_model.specs.Derivations.Handlers.{NamesFresh, IsFixed}
use Rattle.nts_theory.specs.RelatingCandidates.{may_be_argument, relates_aliases, aliased_equations, plain_equations, pairs_with}
use Rattle.nts_store.specs.declared.nodes.NodeId.{NodeId}
use Rattle.nts_store.specs.Growth.{tree_at, trees_at, IsIn, AllIn, Extends}
use Rattle.nts_terms.specs.declared.handles.Goal.{Goal}
use Rattle.nts_candidates.specs.declared.data.Equation.{Equation as EquationData}
use Rattle.nts_candidates.specs.declared.data.EquationKind.TheVariants as kind_data
use Rattle.nts_candidates.specs.declared.data.EquationKind.{EquationKind}
use Rattle.nts_candidates.specs.Offered.{equation_as, equation_of}
use Rattle.nts_delegate.specs.Candidates.{IsOverIn, AreEquations}
use Rattle.nts_solver_relating.specs.Sides.{related_pairs, IsRelatedBy, RefusesSides}
use Rattle.nts_trying.specs.Relating.{aliased_data, plain_data, left_node, right_node, list_of, left_list, right_list}
use Rattle.nts_trying.proofs.RelatedTypes.{closed_grown}
use Rattle.nts_model.specs.Lists.{Among}
use Rattle.nts_model.specs.Tables.Passing.{TreePasses, PassesQueries}
use Rattle.nts_variance.specs.Passing.{PairsPass}
use Rattle.nts_terms.specs.Handles.{HoldsGoal}
use Rattle.nts_meaning.specs.Evaluation.{Goes, IsPosed, AreValues, asked_terms}
use Rattle.nts_meaning.proofs.Running.{equation-kept}
use Rattle.nts_trying.proofs.Labels.{over_passes}
use Rattle.nts_meaning.proofs.Evaluating.{goes, can_fill, IsEquation-extended}
use Rattle.nts_unify.specs.Entries.{Entries}
use Rattle.nts_unify.specs.Reading.{content_of}
use Rattle.nts_table.specs.Tables.{Table, IsTable}
use Rattle.nts_table.specs.Frames.{ChangesVariables}
use Rattle.nts_terms.specs.declared.handles.ParamEnv.{ParamEnv}
use Rattle.nts_variance.specs.Rows.{IsListOf}
use Rattle.nts_variance_model.specs.Variances.Leaving.{Refuses}
use Rattle.nts_model.specs.Tables.Contents.{Content}
use Rattle.nts_model.specs.Tables.Resolving.{Knows}
use Rattle.nts_model.specs.declared.labels.Variance.{Variance}
use Rattle.nts_trying.proofs.Trying.{left_is, right_is}

-- the two lists, as trees and as data
map_if : (b : Bool) (f : EquationData → Equation) (x : EquationData) (xs ys : List EquationData) → map f (if b then x ∷ xs else ys) ≡ (if b then f x ∷ map f xs else map f ys)
map_if true f x xs ys = refl
map_if false f x xs ys = refl

pub map_aliased : (ts : List Tree) (qs : List EquationData) → map (equation_of ts) (aliased_data ts qs) ≡ aliased_equations (map (equation_of ts) qs)
map_aliased ts [] = refl
map_aliased ts (q ∷ qs) =
    map_if (relates_aliases (equation_of ts q)) (equation_of ts) q (aliased_data ts qs) (aliased_data ts qs)
    ∙ ap (λ z. if relates_aliases (equation_of ts q) then equation_of ts q ∷ z else z) (map_aliased ts qs)

map_else : (b : Bool) (f : EquationData → Equation) (x : EquationData) (xs : List EquationData) → map f (if b then xs else x ∷ xs) ≡ (if b then map f xs else f x ∷ map f xs)
map_else true f x xs = refl
map_else false f x xs = refl

pub map_plain : (ts : List Tree) (qs : List EquationData) → map (equation_of ts) (plain_data ts qs) ≡ plain_equations (map (equation_of ts) qs)
map_plain ts [] = refl
map_plain ts (q ∷ qs) =
    map_else (relates_aliases (equation_of ts q)) (equation_of ts) q (plain_data ts qs)
    ∙ ap (λ z. if relates_aliases (equation_of ts q) then z else equation_of ts q ∷ z) (map_plain ts qs)

-- one more
aliased_snoc : (ts : List Tree) (xs : List EquationData) (q : EquationData) → aliased_data ts (xs ++ q ∷ []) ≡ (if relates_aliases (equation_of ts q) then aliased_data ts xs ++ q ∷ [] else aliased_data ts xs)
aliased_snoc ts [] q = refl
aliased_snoc ts (x ∷ xs) q = by_test (relates_aliases (equation_of ts x)) (relates_aliases (equation_of ts q)) (aliased_data ts xs) (aliased_data ts (xs ++ q ∷ [])) (aliased_snoc ts xs q)
  where
    by_test : (b c : Bool) (ys zs : List EquationData) → zs ≡ (if c then ys ++ q ∷ [] else ys) → (if b then x ∷ zs else zs) ≡ (if c then (if b then x ∷ ys else ys) ++ q ∷ [] else (if b then x ∷ ys else ys))
    by_test true true ys zs e = ap (λ z. x ∷ z) e
    by_test true false ys zs e = ap (λ z. x ∷ z) e
    by_test false true ys zs e = e
    by_test false false ys zs e = e

plain_snoc : (ts : List Tree) (xs : List EquationData) (q : EquationData) → plain_data ts (xs ++ q ∷ []) ≡ (if relates_aliases (equation_of ts q) then plain_data ts xs else plain_data ts xs ++ q ∷ [])
plain_snoc ts [] q = refl
plain_snoc ts (x ∷ xs) q = by_test (relates_aliases (equation_of ts x)) (relates_aliases (equation_of ts q)) (plain_data ts xs) (plain_data ts (xs ++ q ∷ [])) (plain_snoc ts xs q)
  where
    by_test : (b c : Bool) (ys zs : List EquationData) → zs ≡ (if c then ys else ys ++ q ∷ []) → (if b then zs else x ∷ zs) ≡ (if c then (if b then ys else x ∷ ys) else (if b then ys else x ∷ ys) ++ q ∷ [])
    by_test true true ys zs e = e
    by_test true false ys zs e = e
    by_test false true ys zs e = ap (λ z. x ∷ z) e
    by_test false false ys zs e = ap (λ z. x ∷ z) e

-- .. as a loop sees it
pub aliased_yes : (ts : List Tree) (xs ys : List EquationData) (q : EquationData) → ys ≡ xs ++ q ∷ [] → relates_aliases (equation_of ts q) ≡ true → aliased_data ts ys ≡ aliased_data ts xs ++ q ∷ []
aliased_yes ts xs ys q e r = ap (aliased_data ts) e ∙ aliased_snoc ts xs q ∙ ap (λ z. if z then aliased_data ts xs ++ q ∷ [] else aliased_data ts xs) r

pub aliased_no : (ts : List Tree) (xs ys : List EquationData) (q : EquationData) → ys ≡ xs ++ q ∷ [] → relates_aliases (equation_of ts q) ≡ false → aliased_data ts ys ≡ aliased_data ts xs
aliased_no ts xs ys q e r = ap (aliased_data ts) e ∙ aliased_snoc ts xs q ∙ ap (λ z. if z then aliased_data ts xs ++ q ∷ [] else aliased_data ts xs) r

pub plain_yes : (ts : List Tree) (xs ys : List EquationData) (q : EquationData) → ys ≡ xs ++ q ∷ [] → relates_aliases (equation_of ts q) ≡ true → plain_data ts ys ≡ plain_data ts xs
plain_yes ts xs ys q e r = ap (plain_data ts) e ∙ plain_snoc ts xs q ∙ ap (λ z. if z then plain_data ts xs else plain_data ts xs ++ q ∷ []) r

pub plain_no : (ts : List Tree) (xs ys : List EquationData) (q : EquationData) → ys ≡ xs ++ q ∷ [] → relates_aliases (equation_of ts q) ≡ false → plain_data ts ys ≡ plain_data ts xs ++ q ∷ []
plain_no ts xs ys q e r = ap (plain_data ts) e ∙ plain_snoc ts xs q ∙ ap (λ z. if z then plain_data ts xs else plain_data ts xs ++ q ∷ []) r

-- an equation that relates aliases is one of them
pub some_aliased : (ts : List Tree) (qs : List EquationData) (i : ℕ) (d : EquationData) → i < length qs → relates_aliases (equation_of ts (get_or qs i d)) ≡ true → aliased_equations (map (equation_of ts) qs) ≡ [] → ⊥
some_aliased ts [] i d l r e = absurd (omega (arith, l))
some_aliased ts (q ∷ qs) zero d l r e = (let none = rw r at e in cc none)
some_aliased ts (q ∷ qs) (suc i) d l r e = some_aliased ts qs i d (omega (arith, l)) r (rest_none (relates_aliases (equation_of ts q)) (equation_of ts q) (aliased_equations (map (equation_of ts) qs)) e)
  where
    rest_none : (b : Bool) (x : Equation) (xs : List Equation) → (if b then x ∷ xs else xs) ≡ [] → xs ≡ []
    rest_none true x xs h = absurd (cc h)
    rest_none false x xs h = h

pub none_aliased : (ts : List Tree) (qs : List EquationData) → aliased_data ts qs ≡ [] → aliased_equations (map (equation_of ts) qs) ≡ []
none_aliased ts qs e = sym (map_aliased ts qs) ∙ ap (map (equation_of ts)) e

-- each of the two lists has equations
pub aliased_are : (ts : List Tree) (fresh : List Sort) (g : Goal) (qs : List EquationData) → AreEquations ts fresh g qs → AreEquations ts fresh g (aliased_data ts qs)
aliased_are ts fresh g [] h = tt
aliased_are ts fresh g (q ∷ qs) h = by_test (relates_aliases (equation_of ts q)) (aliased_are ts fresh g qs h.1)
  where
    by_test : (b : Bool) → AreEquations ts fresh g (aliased_data ts qs) → AreEquations ts fresh g (if b then q ∷ aliased_data ts qs else aliased_data ts qs)
    by_test true r = (h.0, r)
    by_test false r = r

pub plain_are : (ts : List Tree) (fresh : List Sort) (g : Goal) (qs : List EquationData) → AreEquations ts fresh g qs → AreEquations ts fresh g (plain_data ts qs)
plain_are ts fresh g [] h = tt
plain_are ts fresh g (q ∷ qs) h = by_test (relates_aliases (equation_of ts q)) (plain_are ts fresh g qs h.1)
  where
    by_test : (b : Bool) → AreEquations ts fresh g (plain_data ts qs) → AreEquations ts fresh g (if b then plain_data ts qs else q ∷ plain_data ts qs)
    by_test true r = r
    by_test false r = (h.0, r)

-- the right sides of those that relate aliases are arguments
and_first : (a b : Bool) → a && b ≡ true → a ≡ true
and_first true b e = refl
and_first false b e = cc e

fits_argument : (k : Option NodeKind) → may_be_argument k ≡ true → FitsPlace any_argument k
fits_argument (Some (of_sort s)) e = tt
fits_argument k e = absurd (cc e)

right_fits : (k : EquationKind) (a b : Tree) → relates_aliases (equation_as k a b) ≡ true → FitsPlace any_argument (kind_of b)
right_fits kind_data.Related a b e = fits_argument (kind_of b) (and_first (may_be_argument (kind_of b)) (any_label is_alias a || any_label is_alias b) e)
right_fits kind_data.Structural a b e = absurd (cc e)

pub aliased_fit : (ts : List Tree) (qs : List EquationData) → AllFit any_argument (trees_at ts (map right_node (aliased_data ts qs)))
aliased_fit ts [] = tt
aliased_fit ts (q ∷ qs) = by_test (relates_aliases (equation_of ts q)) refl (aliased_fit ts qs)
  where
    by_test : (b : Bool) → relates_aliases (equation_of ts q) ≡ b → AllFit any_argument (trees_at ts (map right_node (aliased_data ts qs))) → AllFit any_argument (trees_at ts (map right_node (if b then q ∷ aliased_data ts qs else aliased_data ts qs)))
    by_test true e r = (right_fits q.kind (tree_at ts q.lhs.node) (tree_at ts q.rhs.node) e, r)
    by_test false e r = r

-- the sides of equations, as lists
pub left_fit : (ts : List Tree) (fresh : List Sort) (g : Goal) (qs : List EquationData) → AreEquations ts fresh g qs → AllFit any_argument (trees_at ts (map left_node qs))
left_fit ts fresh g [] h = tt
left_fit ts fresh g (q ∷ qs) h = (let o = h.0 in o.argument, left_fit ts fresh g qs h.1)

pub left_in : (ts : List Tree) (fresh : List Sort) (g : Goal) (qs : List EquationData) → AreEquations ts fresh g qs → AllIn ts (map left_node qs)
left_in ts fresh g [] h = tt
left_in ts fresh g (q ∷ qs) h = (let o = h.0 in o.lhs.within, left_in ts fresh g qs h.1)

pub right_in : (ts : List Tree) (fresh : List Sort) (g : Goal) (qs : List EquationData) → AreEquations ts fresh g qs → AllIn ts (map right_node qs)
right_in ts fresh g [] h = tt
right_in ts fresh g (q ∷ qs) h = (let o = h.0 in o.rhs.within, right_in ts fresh g qs h.1)

-- a row of terms over the fresh variables and the goal
pub record IsRowOver (ts : List Tree) (fresh : List Sort) (g : Goal) (row : Tree) : Type 0 where
  pub names : NamesFresh fresh row
  pub leaves : (l : Leaf) → Occurs l row → Occurs l (pair (tree_at ts g.param_env.node) (tree_at ts g.predicate.node)) ⊎ IsFixed l
  pub closed : IsClosed row
  pub well_bound : IsWellBound row

no_row : (ts : List Tree) (fresh : List Sort) (g : Goal) → IsRowOver ts fresh g empty
no_row ts fresh g = record { names = tt; leaves = λ l o. absurd o; closed = tt; well_bound = tt }

one_more : (ts : List Tree) (fresh : List Sort) (g : Goal) (x : NodeId) (row : Tree) → IsOverIn ts fresh g x → IsRowOver ts fresh g row → IsRowOver ts fresh g (more (tree_at ts x) row)
one_more ts fresh g x row o r =
    record { names = (o.names, r.names); leaves = λ l i. elim i [ inl j ↦ o.leaves l j | inr j ↦ r.leaves l j ]; closed = (o.closed, r.closed); well_bound = (o.well_bound, r.well_bound) }

pub left_row : (ts : List Tree) (fresh : List Sort) (g : Goal) (qs : List EquationData) → AreEquations ts fresh g qs → IsRowOver ts fresh g (trees_at ts (map left_node qs))
left_row ts fresh g [] h = no_row ts fresh g
left_row ts fresh g (q ∷ qs) h = (let o = h.0 in one_more ts fresh g q.lhs.node (trees_at ts (map left_node qs)) o.lhs (left_row ts fresh g qs h.1))

pub right_row : (ts : List Tree) (fresh : List Sort) (g : Goal) (qs : List EquationData) → AreEquations ts fresh g qs → IsRowOver ts fresh g (trees_at ts (map right_node qs))
right_row ts fresh g [] h = no_row ts fresh g
right_row ts fresh g (q ∷ qs) h = (let o = h.0 in one_more ts fresh g q.rhs.node (trees_at ts (map right_node qs)) o.rhs (right_row ts fresh g qs h.1))

-- .. in a list of the store us that has grown from ts
pub list_over : (ts us : List Tree) (fresh : List Sort) (g : Goal) (row : Tree) (x : NodeId) → IsRowOver ts fresh g row → IsIn us x → tree_at us x ≡ list_of row → tree_at us g.param_env.node ≡ tree_at ts g.param_env.node → tree_at us g.predicate.node ≡ tree_at ts g.predicate.node → IsOverIn us fresh g x
list_over ts us fresh g row x r i e env predicate =
    record {
      within = i;
      names = rw e (tt, r.names);
      leaves = λ l o. rw (env, predicate) (elim (rw e at o) [ inl q ↦ absurd (cc q) | inr j ↦ r.leaves l j ]);
      closed = rw e (tt, r.closed);
      well_bound = rw e (tt, r.well_bound);
    }

-- the pairs of the two lists are the equations, side by side
filled_row : (vs : List Tree) (ts : List Tree) (qs : List EquationData) → related_pairs variance.Invariant (filled vs (list_of (trees_at ts (map left_node qs)))) (filled vs (list_of (trees_at ts (map right_node qs)))) ≡ pairs_with vs (map (equation_of ts) qs)
filled_row vs ts [] = refl
filled_row vs ts (q ∷ qs) =
    let l = left_is q.kind (tree_at ts q.lhs.node) (tree_at ts q.rhs.node) in
    let r = right_is q.kind (tree_at ts q.lhs.node) (tree_at ts q.rhs.node) in
    let rest = filled_row vs ts qs in
    λ i. record { variance = variance.Invariant; left = filled vs (sym l i); right = filled vs (sym r i) } ∷ rest i

pub lists_pair : (ts : List Tree) (vs : List NodeId) (qs : List EquationData) → related_pairs variance.Invariant (filled (map (tree_at ts) vs) (list_of (trees_at ts (map left_node qs)))) (filled (map (tree_at ts) vs) (list_of (trees_at ts (map right_node qs)))) ≡ pairs_with (map (tree_at ts) vs) (map (equation_of ts) qs)
lists_pair ts vs qs = filled_row (map (tree_at ts) vs) ts qs

-- .. as a list of the table
pub is_list_in : (ts : List Tree) (c : Content) (x : NodeId) (t : Tree) → IsIn ts x → tree_at ts x ≡ node (label.List list.Args) t → Knows c (node (label.List list.Args) t) → IsListOf ts c x
is_list_in ts c x t w e k = record { within = w; knows = rw e k; kind = ap kind_of e }

lefts_known_in : {a : List Tree} {t : Table} {g : Goal} {fresh : List Sort} {vs : List NodeId} → IsPosed a t g → AreValues a t fresh vs → (qs : List EquationData) → AreEquations a fresh g qs → Knows (content_of a t.entries) (filled (map (tree_at a) vs) (trees_at a (map left_node qs)))
lefts_known_in p v [] h = tt
lefts_known_in p v (q ∷ qs) h = (let o = h.0 in let k = can_fill p o.lhs v in k.knows, lefts_known_in p v qs h.1)

rights_known_in : {a : List Tree} {t : Table} {g : Goal} {fresh : List Sort} {vs : List NodeId} → IsPosed a t g → AreValues a t fresh vs → (qs : List EquationData) → AreEquations a fresh g qs → Knows (content_of a t.entries) (filled (map (tree_at a) vs) (trees_at a (map right_node qs)))
rights_known_in p v [] h = tt
rights_known_in p v (q ∷ qs) h = (let o = h.0 in let k = can_fill p o.rhs v in k.knows, rights_known_in p v qs h.1)

pub lefts_known : {a : List Tree} {t : Table} {g : Goal} {fresh : List Sort} {vs : List NodeId} → IsPosed a t g → AreValues a t fresh vs → (qs : List EquationData) → AreEquations a fresh g qs → Knows (content_of a t.entries) (left_list a vs qs)
lefts_known p v qs h = ((tt, tt, refl), lefts_known_in p v qs h, tt)

pub rights_known : {a : List Tree} {t : Table} {g : Goal} {fresh : List Sort} {vs : List NodeId} → IsPosed a t g → AreValues a t fresh vs → (qs : List EquationData) → AreEquations a fresh g qs → Knows (content_of a t.entries) (right_list a vs qs)
rights_known p v qs h = ((tt, tt, refl), rights_known_in p v qs h, tt)

-- the table went on
pub related_goes : (a b : List Tree) (t u : Table) (declared : ℕ → List Variance) (env : ParamEnv) (v : Variance) (x y : Tree) (gs : List Goal) → IsTable a t → Extends a b → IsTable b u → ChangesVariables t u → IsRelatedBy declared a b t.entries u.entries env v x y gs → Goes a b t u
related_goes a b t u declared env v x y gs w g k m e =
    let s = e.related in
    let n = s.takes in
    goes w g k n.continues m.saved m.mode m.hidden (λ h. closed_grown n.later h)

-- what was related in a store that had grown before
pub relates_grown : (declared : ℕ → List Variance) (ts us ws : List Tree) (e f : Entries) (env : ParamEnv) (v : Variance) (a b : Tree) (gs : List Goal) → content_of us e ≡ content_of ts e → IsRelatedBy declared us ws e f env v a b gs → IsRelatedBy declared ts ws e f env v a b gs
relates_grown declared ts us ws e f env v a b gs k r =
    let s = r.related in
    record {
      pairs = r.pairs;
      related = record { long = s.long; known = s.known; are_goals = s.are_goals; takes = rw k at s.takes };
      goals = r.goals;
      due = rw k at r.due;
    }

-- the two lists are of one length, so it is their pairs that are refused
long_in : (vs : List Tree) (ts : List Tree) (qs : List EquationData) → row_length (filled vs (trees_at ts (map left_node qs))) ≡ row_length (filled vs (trees_at ts (map right_node qs)))
long_in vs ts [] = refl
long_in vs ts (q ∷ qs) = ap (λ n. n + 1) (long_in vs ts qs)

pub lists_refused : (ts : List Tree) (vs : List NodeId) (qs : List EquationData) (declared : ℕ → List Variance) (c : Content) → RefusesSides declared c variance.Invariant (left_list ts vs qs) (right_list ts vs qs) → Refuses declared c (pairs_with (map (tree_at ts) vs) (map (equation_of ts) qs))
lists_refused ts vs qs declared c (inl apart) = absurd (apart (λ e. long_in (map (tree_at ts) vs) ts qs))
lists_refused ts vs qs declared c (inr r) = subst (Refuses declared c) (lists_pair ts vs qs) r

-- the labels of the sides
pub sides_pass : {a : List Tree} {t : Table} (g : Goal) {fresh : List Sort} {vs : List NodeId} → AreValues a t fresh vs → (P : Label → Bool) → PassesQueries P → ((u : Tree) → Among (asked_terms a g) u → TreePasses P u) → (qs : List EquationData) → AreEquations a fresh g qs → PairsPass P (related_pairs variance.Invariant (left_list a vs qs) (right_list a vs qs))
sides_pass g v P q m [] h = tt
sides_pass g v P q m (x ∷ xs) h = (let o = h.0 in over_passes o.lhs v P q m, let o = h.0 in over_passes o.rhs v P q m, sides_pass g v P q m xs h.1)

-- equations in a store that has grown
pub grown_equations : {a b : List Tree} (fresh : List Sort) (g : Goal) (qs : List EquationData) → Extends a b → HoldsGoal a g → AreEquations a fresh g qs → AreEquations b fresh g qs
grown_equations fresh g [] e p h = tt
grown_equations fresh g (q ∷ qs) e p h = (IsEquation-extended e p h.0, grown_equations fresh g qs e p h.1)

pub same_equations : (a b : List Tree) (fresh : List Sort) (g : Goal) (qs : List EquationData) → Extends a b → AreEquations a fresh g qs → map (equation_of b) qs ≡ map (equation_of a) qs
same_equations a b fresh g [] e h = refl
same_equations a b fresh g (q ∷ qs) e h =
    let o = h.0 in
    let first = equation-kept {a = a} {b = b} q e o.lhs.within o.rhs.within in
    let rest = same_equations a b fresh g qs e h.1 in
    λ i. first i ∷ rest i
