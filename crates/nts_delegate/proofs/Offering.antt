-- What a clause offers is a candidate.
use Rattle.std.proofs.Common.{◌≡◌, inl, inr, ℕ, zero, suc, ◌+◌, ◌<◌, ◌==◌, ◌||◌, Bool, true, false, cond, List, [], ◌∷◌, ◌++◌, length, get_or, take, map, Option, Some, None, eqb-true, refl, ap, sym, ◌∙◌, subst, arith}
use Rattle.std.specs.List.{filter}
use Rattle.std.proofs.lemmas.List.{take_more}
use Rattle.nts_model.specs.declared.labels.Sort.{Sort}
use Rattle.nts_model.specs.declared.labels.Leaf.{Leaf}
use Rattle.nts_model.specs.declared.labels.BoundVarIndexKind.TheVariants as index
use Rattle.nts_model.specs.declared.labels.ClauseHead.TheVariants as clause
use Rattle.nts_model.specs.declared.labels.ListHead.TheVariants as list
use Rattle.nts_model.specs.declared.labels.Label.{Label}
use Rattle.nts_model.specs.declared.labels.Label.TheVariants as label
use Rattle.nts_model.specs.Terms.Trees.{Tree, empty, more, node, children, any_label, is_canonical, row_length, row_at, row_take, IsRow, IsClosed, IsFormed, kind_of, arguments}
use Rattle.nts_model.specs.Terms.Scoping.{IsWellBound}
use Rattle.nts_model.specs.Terms.Substitutions.{Occurs, position_of}
use Rattle.nts_model.specs.Derivations.Related.{pair, unbound}
use Rattle.nts_terms.specs.declared.handles.Goal.{Goal}
use Rattle.nts_terms.specs.declared.handles.Predicate.{Predicate}
use Rattle.nts_store.specs.Growth.{tree_at}
use Rattle.nts_model.specs.Derivations.Handlers.{NamesAt, NamesFresh}
use Rattle.nts_store.proofs.Growing.{row_take-all}
use Rattle.nts_delegate.specs.Candidates.{IsAskedIn, AreEquations, AreNested, IsCandidate, AreCandidates}
use Rattle.nts_delegate.specs.Clauses.{is_foreign, AreBodies, HoldsClause, AreClauses}
use Rattle.nts_delegate.specs.OwnTerms.{leaves_fixed}
use Rattle.nts_delegate.specs.Offers.{trait_read, trait_of_body, trait_of, IsArgumentPair, AreArgumentPairs, asked_by, IsOffer, takes, AreEach}
use Rattle.nts_candidates.specs.declared.data.Equation.{Equation}
use Rattle.nts_candidates.specs.declared.data.CandidateData.{CandidateData}
use Rattle.nts_delegate.specs.declared.clauses.Clause.{Clause}
use Rattle.nts_store.proofs.Filling.{both_false}

-- a label that names no position
no_name : (fresh : List Sort) (l : Label) → is_canonical l ≡ false → NamesAt fresh (position_of l) l
no_name fresh (label.Leaf l) h = tt
no_name fresh (label.Bound s (index.Bound d) i) h = tt
no_name fresh (label.Bound s index.Canonical i) h = cc
no_name fresh (label.Ty t) h = tt
no_name fresh (label.Const k) h = tt
no_name fresh (label.Clause k) h = tt
no_name fresh (label.Predicate p) h = tt
no_name fresh (label.List k) h = tt

pub names_none : (fresh : List Sort) (t : Tree) → any_label is_canonical t ≡ false → NamesFresh fresh t
names_none fresh empty h = tt
names_none fresh (more a b) h =
    let w = both_false (any_label is_canonical a) (any_label is_canonical b) h in
    (names_none fresh a w.0, names_none fresh b w.1)
names_none fresh (node l c) h =
    let w = both_false (is_canonical l) (any_label is_canonical c) h in
    (no_name fresh l w.0, names_none fresh c w.1)

-- the children of a node
pub children_lack : (p : Label → Bool) (t : Tree) → any_label p t ≡ false → any_label p (children t) ≡ false
children_lack p empty h = refl
children_lack p (more a b) h = refl
children_lack p (node l c) h = (both_false (p l) (any_label p c) h).1

pub children_named : (fresh : List Sort) (t : Tree) → NamesFresh fresh t → NamesFresh fresh (children t)
children_named fresh empty h = tt
children_named fresh (more a b) h = tt
children_named fresh (node l c) h = h.1

children_leaves : (l : Leaf) (t : Tree) → Occurs l (children t) → Occurs l t
children_leaves l empty o = absurd o
children_leaves l (more a b) o = absurd o
children_leaves l (node m t) o = inr o

pub children_well_bound : (t : Tree) → IsWellBound t → IsWellBound (children t)
children_well_bound empty h = tt
children_well_bound (more a b) h = tt
children_well_bound (node l c) h = h.1

-- a part of a whole has no position and no leaf that the whole lacks, and its binders list what they bind if those of the whole do
pub record IsPart (whole part : Tree) : Type 0 where
  pub lacks : (p : Label → Bool) → any_label p whole ≡ false → any_label p part ≡ false
  pub leaves : (l : Leaf) → Occurs l part → Occurs l whole
  pub well_bound : IsWellBound whole → IsWellBound part

is_part_of_statement : (s : Tree) (r : ℕ × Tree) → trait_read s ≡ Some r → IsPart s r.1
is_part_of_statement (node (label.Clause (clause.Trait i)) (more a b)) r e =
    let is : a ≡ r.1 = ap (λ o. or_empty o) e in
    rw (← is) (record { lacks = λ p h. let w : any_label p (more a b) ≡ false = (both_false (p (label.Clause (clause.Trait i))) (any_label p (more a b)) h).1 in (both_false (any_label p a) (any_label p b) w).0; leaves = λ l o. inr (inl o); well_bound = λ w. w.1.0 })
  where
    or_empty : Option (ℕ × Tree) → Tree
    or_empty None = empty
    or_empty (Some q) = q.1
is_part_of_statement s r e = cc

is_part_of_body : (t : Tree) (r : ℕ × Tree) → trait_of_body t ≡ Some r → IsPart t r.1
is_part_of_body (more v (more s e)) r h =
    let part = is_part_of_statement s r h in
    record {
      lacks = λ p w. let u = both_false (any_label p v) (any_label p (more s e)) w in
          part.lacks p (both_false (any_label p s) (any_label p e) u.1).0;
      leaves = λ l o. inr (inl (part.leaves l o));
      well_bound = λ w. part.well_bound w.1.0;
    }
is_part_of_body t r h = cc

pub not_equal : (a b : ℕ) → (a ≡ b → ⊥) → (a == b) ≡ false
not_equal a b h = by_case (a == b) refl
  where
    by_case : (w : Bool) → (a == b) ≡ w → (a == b) ≡ false
    by_case true e = absurd (h (eqb-true a b e))
    by_case false e = e

-- the arguments are a part of the goal
pub is_part : (t : Tree) (r : ℕ × Tree) → trait_of t ≡ Some r → IsPart t r.1
is_part t r h =
    let part = is_part_of_body (children t) r h in
    record {
      lacks = λ p w. part.lacks p (children_lack p t w);
      leaves = λ l o. children_leaves l t (part.leaves l o);
      well_bound = λ w. part.well_bound (children_well_bound t w);
    }

-- pairs of arguments
pub pairs_push : (ts : List Tree) (i : ℕ) (us vs : Tree) (qs : List Equation) (q : Equation) → i < row_length us → i < row_length vs → AreArgumentPairs ts (row_take i us) (row_take i vs) qs → IsArgumentPair ts (row_at us i) (row_at vs i) q → AreArgumentPairs ts (row_take (i + 1) us) (row_take (i + 1) vs) (qs ++ q ∷ [])
pairs_push ts i empty vs qs q h k p w = absurd (omega arith)
pairs_push ts i (node l c) vs qs q h k p w = absurd (omega arith)
pairs_push ts i (more a us) empty qs q h k p w = absurd (omega arith)
pairs_push ts i (more a us) (node l c) qs q h k p w = absurd (omega arith)
pairs_push ts zero (more a us) (more b vs) [] q h k p w = (w, tt)
pairs_push ts zero (more a us) (more b vs) (x ∷ qs) q h k p w = absurd p
pairs_push ts (suc i) (more a us) (more b vs) [] q h k p w = absurd p
pairs_push ts (suc i) (more a us) (more b vs) (x ∷ qs) q h k p w =
    let e : suc i + 1 ≡ suc (i + 1) = omega arith in
    rw e (p.0, pairs_push ts i us vs qs q (omega arith) (omega arith) p.1 w)

pub pairs_all : (ts : List Tree) (i : ℕ) (us vs : Tree) (qs : List Equation) → IsRow us → IsRow vs → i ≡ row_length us → row_length us ≡ row_length vs → AreArgumentPairs ts (row_take i us) (row_take i vs) qs → AreArgumentPairs ts us vs qs
pairs_all ts i us vs qs r s e l p =
    let long : i ≡ row_length vs = e ∙ l in
    let first : row_take i us ≡ us = rw e (row_take-all us r) in
    let second : row_take i vs ≡ vs = rw long (row_take-all vs s) in
    rw (first, second) at p

pub pairs_over : (ts : List Tree) (fresh : List Sort) (g : Goal) (us vs : Tree) (qs : List Equation) → AreArgumentPairs ts us vs qs → IsClosed us → IsClosed vs → any_label is_canonical us ≡ false → ((l : Leaf) → Occurs l us → Occurs l (pair (tree_at ts g.param_env.node) (tree_at ts g.predicate.node))) → NamesFresh fresh vs → any_label is_foreign vs ≡ false → IsWellBound us → IsWellBound vs → AreEquations ts fresh g qs
pairs_over ts fresh g empty empty [] p cu cv n k f o x y = tt
pairs_over ts fresh g (more a us) (more b vs) (q ∷ qs) p cu cv n k f o x y =
    let lacks = both_false (any_label is_canonical a) (any_label is_canonical us) n in
    let own = both_false (any_label is_foreign b) (any_label is_foreign vs) o in (
      record {
        lhs = record {
          within = p.0.left_in;
          names = rw p.0.left (names_none fresh a lacks.0);
          leaves = λ l i. inl (k l (inl (rw p.0.left at i)));
          closed = rw p.0.left cu.0;
          well_bound = rw p.0.left x.0;
        };
        rhs = record { within = p.0.right_in; names = rw p.0.right f.0; leaves = λ l i. inr (leaves_fixed b own.0 l (rw p.0.right at i)); closed = rw p.0.right cv.0; well_bound = rw p.0.right y.0 };
        argument = rw p.0.left p.0.argument;
      },
      pairs_over ts fresh g us vs qs p.1 cu.1 cv.1 lacks.1 (λ l i. k l (inr i)) f.1 own.1 x.1 y.1,
    )
pairs_over ts fresh g us vs qs p cu cv n k f o x y = absurd p

-- a goal that handlers are asked has no positions
pub positions : {ts : List Tree} {g : Goal} → IsAskedIn ts g → (any_label is_canonical (tree_at ts g.param_env.node) ≡ false) × (any_label is_canonical (tree_at ts g.predicate.node) ≡ false)
positions {ts} {g} a =
    let asked = a.asked in
    let env = both_false (any_label is_canonical (tree_at ts g.param_env.node)) (any_label is_canonical (more (tree_at ts g.predicate.node) empty)) asked.no_positions in
    (env.0, last (any_label is_canonical (tree_at ts g.predicate.node)) env.1)
  where
    last : (p : Bool) → (p || false) ≡ false → p ≡ false
    last p h = (both_false p false h).0

pub asked_nested : (ts : List Tree) (fresh : List Sort) (g : Goal) (ps : List Predicate) → IsAskedIn ts g → AreBodies ts fresh ps → AreNested ts fresh g (map (asked_by g) ps)
asked_nested ts fresh g [] a b = tt
asked_nested ts fresh g (p ∷ ps) a b = (
  record {
    environment = refl;
    holds = record { env = a.holds.env; predicate = b.0 };
    env = record { within = a.holds.env.within; names = names_none fresh _ (positions a).0; leaves = λ l x. inl (inl x); closed = (let k = a.asked in k.closed.0); well_bound = (let k = a.asked in k.well_bound.0) };
    predicate = record { within = b.1.within; names = b.1.names; leaves = λ l x. inr (leaves_fixed _ b.1.own l x); closed = b.1.closed; well_bound = b.1.well_bound };
  },
  asked_nested ts fresh g ps a b.2,
)

-- a closed list of arguments
pub record AreClosedArguments (t : Tree) : Type 0 where
  pub kind : kind_of t ≡ Some arguments
  pub closed : IsClosed t

-- each of which is closed
pub closed_children : (t : Tree) → kind_of t ≡ Some arguments → IsClosed t → IsClosed (children t)
closed_children empty k h = tt
closed_children (more a b) k h = tt
closed_children (node (label.List list.Args) c) k h = h.1
closed_children (node (label.List list.Env) c) k h = cc
closed_children (node (label.List list.Sorts) c) k h = cc
closed_children (node (label.List (list.Sort s)) c) k h = cc
closed_children (node (label.List list.Binder) c) k h = cc
closed_children (node (label.Leaf x) c) k h = cc
closed_children (node (label.Bound s i n) c) k h = cc
closed_children (node (label.Ty x) c) k h = cc
closed_children (node (label.Const x) c) k h = cc
closed_children (node (label.Clause x) c) k h = cc
closed_children (node (label.Predicate x) c) k h = cc

statement_arguments : (s : Tree) (r : ℕ × Tree) → trait_read s ≡ Some r → IsFormed s → IsClosed s → AreClosedArguments r.1
statement_arguments (node (label.Clause (clause.Trait i)) (more a b)) r e f h =
    let is : a ≡ r.1 = ap (λ o. or_empty o) e in
    subst AreClosedArguments is (record { kind = f.0.0; closed = h.1.0 })
  where
    or_empty : Option (ℕ × Tree) → Tree
    or_empty None = empty
    or_empty (Some q) = q.1
statement_arguments s r e f h = cc

-- those of a goal that handlers are asked
pub goal_arguments : {ts : List Tree} {g : Goal} (r : ℕ × Tree) → IsAskedIn ts g → trait_of (tree_at ts g.predicate.node) ≡ Some r → AreClosedArguments r.1
goal_arguments {ts} {g} r a e =
    let asked = a.asked in
    let here : trait_read asked.statement ≡ Some r = subst (λ z. trait_of z ≡ Some r) asked.binds_nothing e in
    let formed : IsFormed (unbound asked.statement) = subst IsFormed asked.binds_nothing asked.formed.1.0 in
    statement_arguments asked.statement r here formed.1.1.0 asked.closed.1.0

pub offer_is_candidate : (ts : List Tree) (g : Goal) (args : Tree) (c : Clause) (d : CandidateData) → IsAskedIn ts g → HoldsClause ts c → IsPart (tree_at ts g.predicate.node) args → AreClosedArguments args → IsOffer ts g args c d → IsCandidate ts g d
offer_is_candidate ts g args c d a h part closed o =
    record {
      hidden = o.hidden;
      accesses = o.accesses;
      equations = rw o.fresh (pairs_over ts c.fresh.items g (children args) (children (tree_at ts c.head.node)) d.equations.items o.equations (closed_children args closed.kind closed.closed) (closed_children (tree_at ts c.head.node) (let head = h.head_holds in head.fits) h.head.closed) (children_lack is_canonical args (part.lacks is_canonical (positions a).1)) (λ l x. inr (inl (part.leaves l (children_leaves l args x)))) (children_named c.fresh.items (tree_at ts c.head.node) h.head.names) (children_lack is_foreign (tree_at ts c.head.node) h.head.own) (children_well_bound args (part.well_bound (let k = a.asked in k.well_bound.1.0))) (children_well_bound (tree_at ts c.head.node) h.head.well_bound));
      constraints = rw o.constraints tt;
      goals = rw (o.fresh, o.goals) (asked_nested ts c.fresh.items g c.body.items a h.body);
    }

-- what the first clauses of a trait offer
pub record AreFound (ts : List Tree) (g : Goal) (args : Tree) (cs : List Clause) (ds : List CandidateData) : Type 0 where
  pub each : AreEach ts g args (filter (takes ts args) cs) ds
  pub candidates : AreCandidates ts g ds

each_push : (ts : List Tree) (g : Goal) (args : Tree) (cs : List Clause) (ds : List CandidateData) (c : Clause) (d : CandidateData) → AreEach ts g args cs ds → IsOffer ts g args c d → AreEach ts g args (cs ++ c ∷ []) (ds ++ d ∷ [])
each_push ts g args [] [] c d e o = (o, tt)
each_push ts g args [] (y ∷ ds) c d e o = absurd e
each_push ts g args (x ∷ cs) [] c d e o = absurd e
each_push ts g args (x ∷ cs) (y ∷ ds) c d e o = (e.0, each_push ts g args cs ds c d e.1 o)

pub candidates_push : (ts : List Tree) (g : Goal) (ds : List CandidateData) (d : CandidateData) → AreCandidates ts g ds → IsCandidate ts g d → AreCandidates ts g (ds ++ d ∷ [])
candidates_push ts g [] d h k = (k, tt)
candidates_push ts g (x ∷ ds) d h k = (h.0, candidates_push ts g ds d h.1 k)

pub filter_kept : {X : Type 0} (p : X → Bool) (xs : List X) (x : X) → p x ≡ true → filter p (xs ++ x ∷ []) ≡ filter p xs ++ x ∷ []
filter_kept p [] x h = rw h refl
filter_kept p (y ∷ xs) x h = rw (filter_kept p xs x h) (by_case (p y))
  where
    by_case : (b : Bool) → cond b (y ∷ (filter p xs ++ x ∷ [])) (filter p xs ++ x ∷ []) ≡ cond b (y ∷ filter p xs) (filter p xs) ++ x ∷ []
    by_case true = refl
    by_case false = refl

pub filter_left : {X : Type 0} (p : X → Bool) (xs : List X) (x : X) → p x ≡ false → filter p (xs ++ x ∷ []) ≡ filter p xs
filter_left p [] x h = rw h refl
filter_left p (y ∷ xs) x h = rw (filter_left p xs x h) refl

pub taken : (cs : List Clause) (i : ℕ) (c : Clause) → i < length cs → c ≡ get_or cs i c → take (i + 1) cs ≡ take i cs ++ c ∷ []
taken cs i c l e = take_more cs i c l ∙ ap (λ x. take i cs ++ x ∷ []) (sym e)

pub found_more : (ts : List Tree) (g : Goal) (args : Tree) (cs ls : List Clause) (ds es : List CandidateData) (c : Clause) (d : CandidateData) → AreFound ts g args cs ds → takes ts args c ≡ true → IsAskedIn ts g → HoldsClause ts c → IsPart (tree_at ts g.predicate.node) args → AreClosedArguments args → IsOffer ts g args c d → ls ≡ cs ++ c ∷ [] → es ≡ ds ++ d ∷ [] → AreFound ts g args ls es
found_more ts g args cs ls ds es c d f t a h p closed o l e =
    rw (l, e) (record {
      each = rw (filter_kept (takes ts args) cs c t) (each_push ts g args _ ds c d f.each o);
      candidates = candidates_push ts g ds d f.candidates (offer_is_candidate ts g args c d a h p closed o);
    })

pub found_same : (ts : List Tree) (g : Goal) (args : Tree) (cs ls : List Clause) (ds es : List CandidateData) (c : Clause) → AreFound ts g args cs ds → takes ts args c ≡ false → ls ≡ cs ++ c ∷ [] → es ≡ ds → AreFound ts g args ls es
found_same ts g args cs ls ds es c f t l e =
    rw (l, e) (record { each = rw (filter_left (takes ts args) cs c t) f.each; candidates = f.candidates })

pub clause_at : (ts : List Tree) (cs : List Clause) (i : ℕ) (c : Clause) → AreClauses ts cs → i < length cs → c ≡ get_or cs i c → HoldsClause ts c
clause_at ts [] i c h l e = absurd (omega arith)
clause_at ts (x ∷ cs) zero c h l e = rw e h.0
clause_at ts (x ∷ cs) (suc i) c h l e = clause_at ts cs i c h.1 (omega arith) e

pub clauses_push : (ts : List Tree) (cs : List Clause) (c : Clause) → AreClauses ts cs → HoldsClause ts c → AreClauses ts (cs ++ c ∷ [])
clauses_push ts [] c h k = (k, tt)
clauses_push ts (x ∷ cs) c h k = (h.0, clauses_push ts cs c h.1 k)
