-- What the rows of an environment offer, one by one, while the store grows.
use Rattle.std.proofs.Common.{◌≡◌, inl, inr, ℕ, zero, suc, ◌+◌, ◌<◌, Bool, true, false, List, [], ◌∷◌, ◌++◌, map, Option, Some, None, refl, sym, ap, subst, ◌∙◌, arith, append_assoc, append-nil}
use Rattle.std.proofs.lemmas.List.{map-append}
use Rattle.nts_model.specs.declared.labels.Sort.{Sort}
use Rattle.nts_model.specs.declared.labels.ListHead.TheVariants as list
use Rattle.nts_model.specs.declared.labels.Label.TheVariants as label
use Rattle.nts_model.specs.Terms.Trees.{Tree, empty, more, node, children, label_of, kind_of, arguments, environment, sort_list, row_length, row_at, row_take, IsRow, IsInRow}
use Rattle.nts_model.specs.Terms.Scoping.{listed_in}
use Rattle.nts_model.specs.Lists.{Among}
use Rattle.nts_model.specs.Derivations.Rules.{Equation, coherence}
use Rattle.nts_model.specs.Derivations.Handlers.{Candidate, IsOver, IsEquationOver, IsCandidateFor}
use Rattle.nts_store.specs.declared.nodes.NodeId.{NodeId}
use Rattle.nts_store.specs.Growth.{tree_at, IsIn, Extends}
use Rattle.nts_store.proofs.Growing.{Extends-trans, row_take-all}
use Rattle.nts_terms.specs.declared.handles.Goal.{Goal}
use Rattle.nts_terms.specs.declared.handles.TraitRef.{TraitRef}
use Rattle.nts_terms.specs.declared.cx.Cx.{Cx}
use Rattle.nts_terms.specs.Rest.{Grows}
use Rattle.nts_terms.specs.Kinds.{tree_of_sort}
use Rattle.nts_candidates.specs.declared.data.Equation.{Equation as EquationData}
use Rattle.nts_candidates.specs.declared.data.EquationKind.{EquationKind}
use Rattle.nts_candidates.specs.declared.data.CandidateData.{CandidateData}
use Rattle.nts_assembly.specs.Assumptions.{rows_of, sort_read, sorts_in, sorts_of_predicate, positioned, assumed_offer, fits_trait, offer_where, offer_if, offers_over, assumed_offers}
use Rattle.nts_assembly.specs.Assumed.{IsLawfulHandler-assuming}
use Rattle.nts_assembly.specs.AssumedOffers.{among_over}
use Rattle.nts_delegate.specs.Candidates.{IsAskedIn, IsOverIn, AreEquations, IsCandidate, AreCandidates}
use Rattle.nts_delegate.specs.ClausesLawful.{pairs_read}
use Rattle.nts_assembly.specs.EnvironmentRows.{one_or_none, IsAssumedOffer, IsOfferWhere, IsOfferIf, IsOfferOfRow}
use Rattle.nts_delegate.specs.Keeping.{AreCandidates-kept, AreCandidates-append, candidates_of-kept, HoldsGoal-kept, same_goal}
use Rattle.nts_candidates.specs.nts_certainty.specs.Accesses.{access_of}
use Rattle.nts_candidates.specs.Offered.{certainty_of, equation_as, equation_of, constraint_of, hidden_of, premise_of, candidate_of, candidates_of}
use Rattle.nts_delegate.specs.Offers.{AreArgumentPairs, trait_of}

-- the sorts that a binder lists, one by one
pub sorts_more : (i : ℕ) (t : Tree) (s : Sort) → i < row_length t → row_at t i ≡ tree_of_sort s → sorts_in (row_take (i + 1) t) ≡ sorts_in (row_take i t) ++ s ∷ []
sorts_more i empty s h e = absurd (omega arith)
sorts_more zero (more a b) s h e = ap (λ x. sort_read (label_of x) ∷ []) e
sorts_more (suc i) (more a b) s h e =
    let q : suc i + 1 ≡ suc (i + 1) = omega arith in rw q (ap (λ x. sort_read (label_of a) ∷ x) (sorts_more i b s (omega arith) e))
sorts_more i (node l c) s h e = absurd (omega arith)

pub sorts_all : (i : ℕ) (t : Tree) → IsRow t → i ≡ row_length t → sorts_in (row_take i t) ≡ sorts_in t
sorts_all i t r e = rw e (ap sorts_in (row_take-all t r))

-- a list of sorts, and one of arguments
pub sorts_listed : (t : Tree) → kind_of t ≡ Some sort_list → listed_in t ≡ children t
sorts_listed (node (label.List list.Sorts) c) h = refl
sorts_listed t h = cc

pub children_positioned : (t : Tree) → kind_of t ≡ Some arguments → children (positioned 0 t) ≡ positioned 0 (children t)
children_positioned (node (label.List list.Args) c) h = refl
children_positioned t h = cc

pub row_length_positioned : (c : ℕ) (t : Tree) → IsRow t → row_length (positioned c t) ≡ row_length t
row_length_positioned c empty h = refl
row_length_positioned c (more a b) h = cc (row_length_positioned c b h)
row_length_positioned c (node l t) h = absurd h

-- what a row offers, as trees
offer_read : (ts : List Tree) (us : Tree) (ss : List Sort) (hs : Tree) (d : CandidateData) → IsAssumedOffer ts us ss hs d → candidate_of ts d ≡ assumed_offer us ss hs
offer_read ts us ss hs d o =
    let equations = pairs_read ts us (positioned 0 hs) d.equations.items o.equations in
    let constraints = ap (map (constraint_of ts)) o.constraints in
    let hidden = ap (map (hidden_of ts)) o.hidden in
    let goals = ap (map (premise_of ts)) o.goals in
    cc (o.fresh, equations, goals, constraints, hidden, ap certainty_of o.certainty, ap access_of o.accesses)

pub where_read : (w : Bool) (ts : List Tree) (us : Tree) (ss : List Sort) (hs : Tree) (o : Option CandidateData) → IsOfferWhere w ts us ss hs o → candidates_of ts (one_or_none o) ≡ offer_where w (assumed_offer us ss hs)
where_read true ts us ss hs (Some d) h = ap (λ c. c ∷ []) (offer_read ts us ss hs d h)
where_read true ts us ss hs None h = absurd h
where_read false ts us ss hs o h = ap (λ x. candidates_of ts (one_or_none x)) h

if_read : (ts : List Tree) (i : ℕ) (us p : Tree) (z : Option (ℕ × Tree)) (o : Option CandidateData) → IsOfferIf ts i us p z o → candidates_of ts (one_or_none o) ≡ offer_if i us p z
if_read ts i us p None o h = ap (λ x. candidates_of ts (one_or_none x)) h
if_read ts i us p (Some r) o h = where_read (fits_trait i us r) ts us (sorts_of_predicate p) (children r.1) o h

-- .. and as data
pub record IsSomeOffer (ts : List Tree) (us : Tree) (d : CandidateData) : Type 0 where
  pub sorts : List Sort
  pub head : Tree
  pub is : IsAssumedOffer ts us sorts head d

pub where_some : (w : Bool) (ts : List Tree) (us : Tree) (ss : List Sort) (hs : Tree) (d : CandidateData) → IsOfferWhere w ts us ss hs (Some d) → IsSomeOffer ts us d
where_some true ts us ss hs d h = record { sorts = ss; head = hs; is = h }
where_some false ts us ss hs d h = cc

if_some : (ts : List Tree) (i : ℕ) (us p : Tree) (z : Option (ℕ × Tree)) (d : CandidateData) → IsOfferIf ts i us p z (Some d) → IsSomeOffer ts us d
if_some ts i us p None d h = cc
if_some ts i us p (Some r) d h = where_some (fits_trait i us r) ts us (sorts_of_predicate p) (children r.1) d h

-- an equation of an offer is one of the candidate's data
over_in : (ts : List Tree) (fresh : List Sort) (g : Goal) (n : NodeId) → IsIn ts n → IsOver fresh (tree_at ts g.param_env.node) (tree_at ts g.predicate.node) (tree_at ts n) → IsOverIn ts fresh g n
over_in ts fresh g n i o =
    record { within = i; names = o.names; leaves = o.leaves; closed = o.closed; well_bound = o.well_bound }

pairs_over : (ts : List Tree) (fresh : List Sort) (g : Goal) (us vs : Tree) (qs : List EquationData) → AreArgumentPairs ts us vs qs
    → ((q : Equation) → Among (map (equation_of ts) qs) q → IsEquationOver fresh (tree_at ts g.param_env.node) (tree_at ts g.predicate.node) q) → AreEquations ts fresh g qs
pairs_over ts fresh g empty empty [] p h = tt
pairs_over ts fresh g (more a us) (more b vs) (q ∷ qs) p h =
    let e = tree_at ts g.param_env.node in
    let s = tree_at ts g.predicate.node in
    let both : IsOver fresh e s (tree_at ts q.lhs.node) × IsOver fresh e s (tree_at ts q.rhs.node) = subst (λ (k : EquationKind). IsEquationOver fresh e s (equation_as k (tree_at ts q.lhs.node) (tree_at ts q.rhs.node))) p.0.kind (h (equation_of ts q) (inl refl)) in (
      record {
        lhs = over_in ts fresh g q.lhs.node p.0.left_in both.0;
        rhs = over_in ts fresh g q.rhs.node p.0.right_in both.1;
        argument = rw p.0.left p.0.argument;
      },
      pairs_over ts fresh g us vs qs p.1 (λ x i. h x (inr i)),
    )
pairs_over ts fresh g us vs qs p h = absurd p

pub offer_kept : (ts : List Tree) (g : Goal) (us : Tree) (d : CandidateData) → IsSomeOffer ts us d → IsCandidateFor (tree_at ts g.param_env.node) (tree_at ts g.predicate.node) (candidate_of ts d) → IsCandidate ts g d
offer_kept ts g us d o k =
    record {
      hidden = o.is.hidden;
      accesses = o.is.accesses;
      equations = pairs_over ts d.fresh.items g us (positioned 0 o.head) d.equations.items o.is.equations (λ q i. k.equations q i);
      constraints = rw o.is.constraints tt;
      goals = rw o.is.goals tt;
    }

-- the goal is of a trait, with these arguments
pub record IsOfTrait (ts : List Tree) (g : Goal) (r : TraitRef) : Type 0 where
  pub asked : IsAskedIn ts g
  pub args_in : IsIn ts r.args.node
  pub is : trait_of (tree_at ts g.predicate.node) ≡ Some (r.def_id.number, tree_at ts r.args.node)

row_candidates : (ts : List Tree) (g : Goal) (r : TraitRef) (p : Tree) (o : Option CandidateData) → IsOfTrait ts g r → IsInRow p (rows_of (tree_at ts g.param_env.node)) → IsOfferOfRow ts r.def_id.number (children (tree_at ts r.args.node)) p o → AreCandidates ts g (one_or_none o)
row_candidates ts g r p None t i h = tt
row_candidates ts g r p (Some d) t i h =
    let e = tree_at ts g.param_env.node in
    let s = tree_at ts g.predicate.node in
    let us = children (tree_at ts r.args.node) in
    let one : Among (offer_if r.def_id.number us p (trait_of p)) (candidate_of ts d) = subst (λ (cs : List Candidate). Among cs (candidate_of ts d)) (if_read ts r.def_id.number us p (trait_of p) (Some d) h) (inl refl) in
    let here : Among (offers_over r.def_id.number us (rows_of e)) (candidate_of ts d) = among_over r.def_id.number us p (rows_of e) (candidate_of ts d) i one in
    let there : Among (assumed_offers e (trait_of s)) (candidate_of ts d) = rw t.is here in
    let asked = t.asked in
    (offer_kept ts g us d (if_some ts r.def_id.number us p (trait_of p) d h) (IsLawfulHandler-assuming.keep.each coherence e s (candidate_of ts d) asked.asked there), tt)

-- rows
offers_more : (i : ℕ) (us ps : Tree) (k : ℕ) → k < row_length ps → offers_over i us (row_take (k + 1) ps) ≡ offers_over i us (row_take k ps) ++ offer_if i us (row_at ps k) (trait_of (row_at ps k))
offers_more i us empty k h = absurd (omega arith)
offers_more i us (more p ps) zero h = append-nil (offer_if i us p (trait_of p))
offers_more i us (more p ps) (suc k) h =
    let q : suc k + 1 ≡ suc (k + 1) = omega arith in
    rw q (ap (λ x. offer_if i us p (trait_of p) ++ x) (offers_more i us ps k (omega arith)) ∙ sym (append_assoc (offer_if i us p (trait_of p)) (offers_over i us (row_take k ps)) (offer_if i us (row_at ps k) (trait_of (row_at ps k)))))
offers_more i us (node l c) k h = absurd (omega arith)

pub in_row : (ps : Tree) (k : ℕ) → k < row_length ps → IsInRow (row_at ps k) ps
in_row empty k h = absurd (omega arith)
in_row (more p ps) zero h = inl refl
in_row (more p ps) (suc k) h = inr (in_row ps k (omega arith))
in_row (node l c) k h = absurd (omega arith)

pub rows_children : (e : Tree) → kind_of e ≡ Some environment → rows_of e ≡ children e
rows_children (node (label.List list.Env) ps) h = refl
rows_children e h = cc

-- what was asked stays so
pub asked_kept : {a b : List Tree} {g : Goal} → Extends a b → IsAskedIn a g → IsAskedIn b g
asked_kept {a} {b} {g} e h =
    let s = same_goal h.holds e in
    record { holds = HoldsGoal-kept h.holds e; asked = rw (s.env, s.predicate) h.asked }

of_trait_kept : {a b : List Tree} {g : Goal} {r : TraitRef} → Extends a b → IsOfTrait a g r → IsOfTrait b g r
of_trait_kept {a} {b} {g} {r} e t =
    let asked = t.asked in
    let s = same_goal asked.holds e in
    record {
      asked = asked_kept e t.asked;
      args_in = omega (arith, e.longer, t.args_in);
      is = rw (s.predicate, e.kept r.args.node t.args_in) t.is;
    }

-- the rows before the k-th have been asked for their offers
pub record AreOffered (ts : List Tree) (g : Goal) (r : TraitRef) (k : ℕ) (ds : List CandidateData) : Type 0 where
  pub of_trait : IsOfTrait ts g r
  pub offers : candidates_of ts ds ≡ offers_over r.def_id.number (children (tree_at ts r.args.node)) (row_take k (children (tree_at ts g.param_env.node)))
  pub candidates : AreCandidates ts g ds

pub none_offered : (ts : List Tree) (g : Goal) (r : TraitRef) (ds : List CandidateData) → IsOfTrait ts g r → ds ≡ [] → AreOffered ts g r 0 ds
none_offered ts g r ds t e = record { of_trait = t; offers = rw e refl; candidates = rw e tt }

pub next_offered : (a b : List Tree) (g : Goal) (r : TraitRef) (k : ℕ) (ds es : List CandidateData) (p : Tree) (o : Option CandidateData) → AreOffered a g r k ds → Extends a b → k < row_length (children (tree_at a g.param_env.node))
    → p ≡ row_at (children (tree_at a g.param_env.node)) k → IsOfferOfRow b r.def_id.number (children (tree_at a r.args.node)) p o → es ≡ ds ++ one_or_none o → AreOffered b g r (k + 1) es
next_offered a b g r k ds es p o h e below row offer es_is =
    let t = h.of_trait in
    let there = of_trait_kept e t in
    let asked = t.asked in
    let later = there.asked in
    let s = same_goal asked.holds e in
    let args = e.kept r.args.node t.args_in in
    let ps = children (tree_at b g.param_env.node) in
    let us = children (tree_at b r.args.node) in
    let inside : k < row_length ps = rw s.env below in
    let here : p ≡ row_at ps k = rw s.env row in
    let offered : IsOfferOfRow b r.def_id.number us p o = rw args offer in
    let rows : rows_of (tree_at b g.param_env.node) ≡ ps = rows_children (tree_at b g.param_env.node) later.holds.env.fits in
    let among : IsInRow p (rows_of (tree_at b g.param_env.node)) = rw (rows, here) (in_row ps k inside) in
    let before : candidates_of b ds ≡ offers_over r.def_id.number us (row_take k ps) = candidates_of-kept g ds e h.candidates ∙ rw (args, s.env) h.offers in
    let new : candidates_of b (one_or_none o) ≡ offer_if r.def_id.number us (row_at ps k) (trait_of (row_at ps k)) = subst (λ z. candidates_of b (one_or_none o) ≡ offer_if r.def_id.number us z (trait_of z)) here (if_read b r.def_id.number us p (trait_of p) o offered) in
    record {
      of_trait = there;
      offers = ap (candidates_of b) es_is ∙ map-append (candidate_of b) ds (one_or_none o) ∙ cc (before, new) ∙ sym (offers_more r.def_id.number us ps k inside);
      candidates = rw es_is (AreCandidates-append b g ds (one_or_none o) (AreCandidates-kept ds asked.holds e h.candidates) (row_candidates b g r p o there among offered));
    }

pub all_offered : (ts : List Tree) (g : Goal) (r : TraitRef) (k : ℕ) (ds : List CandidateData) → AreOffered ts g r k ds → IsRow (children (tree_at ts g.param_env.node)) → k ≡ row_length (children (tree_at ts g.param_env.node)) → candidates_of ts ds ≡ assumed_offers (tree_at ts g.param_env.node) (trait_of (tree_at ts g.predicate.node))
all_offered ts g r k ds h row e =
    let t = h.of_trait in
    let asked = t.asked in
    let ps = children (tree_at ts g.param_env.node) in
    let all : row_take k ps ≡ ps = rw e (row_take-all ps row) in
    let rows : rows_of (tree_at ts g.param_env.node) ≡ ps = rows_children (tree_at ts g.param_env.node) asked.holds.env.fits in
    rw (t.is, rows) (h.offers ∙ ap (offers_over r.def_id.number (children (tree_at ts r.args.node))) all)

-- the data of a row's offer
pub where_offered : (w : Bool) (ts : List Tree) (us : Tree) (ss : List Sort) (hs : Tree) (d : CandidateData) → w ≡ true → IsAssumedOffer ts us ss hs d → IsOfferWhere w ts us ss hs (Some d)
where_offered true ts us ss hs d e h = h
where_offered false ts us ss hs d e h = cc

pub where_none : (w : Bool) (ts : List Tree) (us : Tree) (ss : List Sort) (hs : Tree) → w ≡ false → IsOfferWhere w ts us ss hs None
where_none true ts us ss hs e = cc
where_none false ts us ss hs e = refl

-- a list of arguments with positions
pub positioned_args : (a b : List Tree) (n m : NodeId) → kind_of (tree_at a n) ≡ Some arguments → tree_at b m ≡ positioned 0 (tree_at a n) → children (tree_at b m) ≡ positioned 0 (children (tree_at a n))
positioned_args a b n m k e = ap children e ∙ children_positioned (tree_at a n) k

-- a store that grows and grows again
pub grows_on : {a b c : Cx} → Grows a b → Grows b c → Grows a c
grows_on x y =
    let first = x.rest in
    let second = y.rest in
    record {
      extends = Extends-trans x.extends y.extends;
      rest = record {
        declarations = second.declarations ∙ first.declarations;
        limit = second.limit ∙ first.limit;
        steps = second.steps ∙ first.steps;
        rounds = second.rounds ∙ first.rounds;
        division = second.division ∙ first.division;
        fast_paths = second.fast_paths ∙ first.fast_paths;
      };
    }
