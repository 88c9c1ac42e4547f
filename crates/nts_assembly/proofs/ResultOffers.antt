-- What the rows of an environment that say what aliases are offer, one by one, while the store grows.
use Rattle.std.proofs.Common.{◌≡◌, inl, ℕ, zero, suc, ◌+◌, ◌<◌, List, [], ◌∷◌, ◌++◌, Option, Some, None, refl, sym, ap, subst, ◌∙◌, arith, append_assoc, append-nil}
use Rattle.std.proofs.lemmas.List.{map-append}
use Rattle.nts_model.specs.Terms.Trees.{Tree, empty, more, node, children, kind_of, arguments, row_length, row_at, row_take, IsRow, IsInRow}
use Rattle.nts_model.specs.Lists.{Among}
use Rattle.nts_model.specs.Derivations.Handlers.{Candidate}
use Rattle.nts_store.specs.declared.nodes.NodeId.{NodeId}
use Rattle.nts_store.specs.Growth.{tree_at, IsIn, Extends}
use Rattle.nts_store.proofs.Growing.{row_take-all}
use Rattle.nts_terms.specs.declared.handles.Goal.{Goal}
use Rattle.nts_candidates.specs.declared.data.Equation.{Equation}
use Rattle.nts_candidates.specs.declared.data.CandidateData.{CandidateData}
use Rattle.nts_candidates.specs.Offered.{candidate_of, candidates_of}
use Rattle.nts_delegate.specs.AliasGoals.{normalizes_or_not}
use Rattle.nts_delegate.specs.Candidates.{IsAskedIn, AreCandidates}
use Rattle.nts_delegate.specs.ClauseHandlers.{AliasAsked, asked_row, normalization_of, projection_of}
use Rattle.nts_delegate.specs.ClausesKept.{Holds-kept}
use Rattle.nts_delegate.specs.Offers.{AreArgumentPairs, IsArgumentPair}
use Rattle.nts_delegate.proofs.AliasFound.{pairs_end}
use Rattle.nts_delegate.specs.Keeping.{AreCandidates-kept, AreCandidates-append, candidates_of-kept, same_goal}
use Rattle.nts_assembly.specs.declared.projections.AliasIs.{AliasIs}
use Rattle.nts_assembly.specs.Assumptions.{rows_of, positioned, sorts_of_predicate}
use Rattle.nts_assembly.specs.EnvironmentRows.{one_or_none}
use Rattle.nts_assembly.specs.Projections.{fits_alias, result_if, results_over, assumed_results}
use Rattle.nts_assembly.specs.EquatingLawful.{keep_shape, positioned_push}
use Rattle.nts_assembly.specs.EquatingOffers.{among_results}
use Rattle.nts_assembly.specs.ProjectionRows.{HoldsSaid, said_in, IsResultIf, IsResultOfRow}
use Rattle.nts_assembly.proofs.RowOffers.{where_read, IsSomeOffer, where_some, offer_kept, in_row, rows_children, asked_kept, positioned_args}

-- what a row offers, as trees
result_read : (ts : List Tree) (w : AliasAsked) (p : Tree) (z : Option AliasAsked) (o : Option CandidateData) → IsResultIf ts w p z o → candidates_of ts (one_or_none o) ≡ result_if w p z
result_read ts w p None o h = ap (λ x. candidates_of ts (one_or_none x)) h
result_read ts w p (Some r) o h = where_read (fits_alias w r) ts (asked_row w) (sorts_of_predicate p) (asked_row r) o h

-- .. and as data
result_some : (ts : List Tree) (w : AliasAsked) (p : Tree) (z : Option AliasAsked) (d : CandidateData) → IsResultIf ts w p z (Some d) → IsSomeOffer ts (asked_row w) d
result_some ts w p None d h = cc
result_some ts w p (Some r) d h = where_some (fits_alias w r) ts (asked_row w) (sorts_of_predicate p) (asked_row r) d h

-- what was read of an alias stays so
pub said_kept : {a b : List Tree} (w : AliasIs) → Extends a b → HoldsSaid a w → said_in b w ≡ said_in a w
said_kept {a} {b} w e h =
    let alias = w.alias in
    let args = alias.args in
    let term = w.term in
    let parts = ap children (e.kept args.node h.args.within) in
    let is = e.kept term.node h.term.within in
    cc (parts, is)

pub holds_kept : {a b : List Tree} (w : AliasIs) → Extends a b → HoldsSaid a w → HoldsSaid b w
holds_kept {a} {b} w e h = record { args = Holds-kept h.args e; term = Holds-kept h.term e }

-- the goal says that an alias normalizes to a term
pub record AsksFor (ts : List Tree) (g : Goal) (w : AliasIs) : Type 0 where
  pub asked : IsAskedIn ts g
  pub holds : HoldsSaid ts w
  pub is : normalization_of (tree_at ts g.predicate.node) ≡ Some (said_in ts w)

asks_kept : {a b : List Tree} {g : Goal} {w : AliasIs} → Extends a b → AsksFor a g w → AsksFor b g w
asks_kept {a} {b} {g} {w} e t =
    let asked = t.asked in
    let s = same_goal asked.holds e in
    record {
      asked = asked_kept e t.asked;
      holds = holds_kept w e t.holds;
      is = rw s.predicate (t.is ∙ ap Some (sym (said_kept w e t.holds)));
    }

row_results : (ts : List Tree) (g : Goal) (w : AliasIs) (p : Tree) (o : Option CandidateData) → AsksFor ts g w → IsInRow p (rows_of (tree_at ts g.param_env.node)) → IsResultOfRow ts (said_in ts w) p o → AreCandidates ts g (one_or_none o)
row_results ts g w p None t i h = tt
row_results ts g w p (Some d) t i h =
    let e = tree_at ts g.param_env.node in
    let s = tree_at ts g.predicate.node in
    let said = said_in ts w in
    let one : Among (result_if said p (projection_of p)) (candidate_of ts d) = subst (λ (cs : List Candidate). Among cs (candidate_of ts d)) (result_read ts said p (projection_of p) (Some d) h) (inl refl) in
    let here : Among (results_over said (rows_of e)) (candidate_of ts d) = among_results said p (rows_of e) (candidate_of ts d) i one in
    let there : Among (assumed_results e (normalization_of s)) (candidate_of ts d) = subst (λ z. Among (assumed_results e z) (candidate_of ts d)) (sym t.is) here in
    let asked = t.asked in
    (offer_kept ts g (asked_row said) d (result_some ts said p (projection_of p) d h) (keep_shape e s (candidate_of ts d) asked.asked (normalizes_or_not e s asked.asked) there), tt)

-- rows
results_more : (w : AliasAsked) (ps : Tree) (k : ℕ) → k < row_length ps → results_over w (row_take (k + 1) ps) ≡ results_over w (row_take k ps) ++ result_if w (row_at ps k) (projection_of (row_at ps k))
results_more w empty k h = absurd (omega arith)
results_more w (more p ps) zero h = append-nil (result_if w p (projection_of p))
results_more w (more p ps) (suc k) h =
    let q : suc k + 1 ≡ suc (k + 1) = omega arith in
    rw q (ap (λ x. result_if w p (projection_of p) ++ x) (results_more w ps k (omega arith)) ∙ sym (append_assoc (result_if w p (projection_of p)) (results_over w (row_take k ps)) (result_if w (row_at ps k) (projection_of (row_at ps k)))))
results_more w (node l c) k h = absurd (omega arith)

-- the rows before the k-th have been asked for their offers
pub record AreResults (ts : List Tree) (g : Goal) (w : AliasIs) (k : ℕ) (ds : List CandidateData) : Type 0 where
  pub asks : AsksFor ts g w
  pub offers : candidates_of ts ds ≡ results_over (said_in ts w) (row_take k (children (tree_at ts g.param_env.node)))
  pub candidates : AreCandidates ts g ds

pub no_results : (ts : List Tree) (g : Goal) (w : AliasIs) (ds : List CandidateData) → AsksFor ts g w → ds ≡ [] → AreResults ts g w 0 ds
no_results ts g w ds t e = record { asks = t; offers = rw e refl; candidates = rw e tt }

pub next_result : (a b : List Tree) (g : Goal) (w : AliasIs) (k : ℕ) (ds es : List CandidateData) (p : Tree) (o : Option CandidateData) → AreResults a g w k ds → Extends a b → k < row_length (children (tree_at a g.param_env.node))
    → p ≡ row_at (children (tree_at a g.param_env.node)) k → IsResultOfRow b (said_in a w) p o → es ≡ ds ++ one_or_none o → AreResults b g w (k + 1) es
next_result a b g w k ds es p o h e below row offer es_is =
    let t = h.asks in
    let there = asks_kept e t in
    let asked = t.asked in
    let later = there.asked in
    let s = same_goal asked.holds e in
    let said = said_kept w e t.holds in
    let ps = children (tree_at b g.param_env.node) in
    let inside : k < row_length ps = rw s.env below in
    let here : p ≡ row_at ps k = rw s.env row in
    let offered : IsResultOfRow b (said_in b w) p o = subst (λ z. IsResultOfRow b z p o) (sym said) offer in
    let rows : rows_of (tree_at b g.param_env.node) ≡ ps = rows_children (tree_at b g.param_env.node) later.holds.env.fits in
    let among : IsInRow p (rows_of (tree_at b g.param_env.node)) = rw (rows, here) (in_row ps k inside) in
    let before : candidates_of b ds ≡ results_over (said_in b w) (row_take k ps) = candidates_of-kept g ds e h.candidates ∙ h.offers ∙ ap (λ z. results_over z (row_take k (children (tree_at a g.param_env.node)))) (sym said) ∙ ap (λ z. results_over (said_in b w) (row_take k (children z))) (sym s.env) in
    let new : candidates_of b (one_or_none o) ≡ result_if (said_in b w) (row_at ps k) (projection_of (row_at ps k)) = subst (λ z. candidates_of b (one_or_none o) ≡ result_if (said_in b w) z (projection_of z)) here (result_read b (said_in b w) p (projection_of p) o offered) in
    record {
      asks = there;
      offers = ap (candidates_of b) es_is ∙ map-append (candidate_of b) ds (one_or_none o) ∙ cc (before, new) ∙ sym (results_more (said_in b w) ps k inside);
      candidates = rw es_is (AreCandidates-append b g ds (one_or_none o) (AreCandidates-kept ds asked.holds e h.candidates) (row_results b g w p o there among offered));
    }

pub all_results : (ts : List Tree) (g : Goal) (w : AliasIs) (k : ℕ) (ds : List CandidateData) → AreResults ts g w k ds → IsRow (children (tree_at ts g.param_env.node)) → k ≡ row_length (children (tree_at ts g.param_env.node))
    → candidates_of ts ds ≡ assumed_results (tree_at ts g.param_env.node) (normalization_of (tree_at ts g.predicate.node))
all_results ts g w k ds h row e =
    let t = h.asks in
    let asked = t.asked in
    let ps = children (tree_at ts g.param_env.node) in
    let all : row_take k ps ≡ ps = rw e (row_take-all ps row) in
    let rows : rows_of (tree_at ts g.param_env.node) ≡ ps = rows_children (tree_at ts g.param_env.node) asked.holds.env.fits in
    h.offers ∙ ap (results_over (said_in ts w)) (all ∙ sym rows) ∙ sym (ap (assumed_results (tree_at ts g.param_env.node)) t.is)

-- a list of arguments with positions, after the store grew once more
pub head_positioned : (a b d : List Tree) (n m : NodeId) → kind_of (tree_at a n) ≡ Some arguments → tree_at b m ≡ positioned 0 (tree_at a n) → Extends b d → IsIn b m → children (tree_at d m) ≡ positioned 0 (children (tree_at a n))
head_positioned a b d n m k e g i = ap children (g.kept m i) ∙ positioned_args a b n m k e

-- the equations of a row are those of its arguments, and one of its term
pub pairs_said : (ts : List Tree) (w r : AliasAsked) (qs : List Equation) (q : Equation) → IsRow r.parts → AreArgumentPairs ts w.parts (positioned 0 r.parts) qs → IsArgumentPair ts w.term (positioned 0 r.term) q → AreArgumentPairs ts (asked_row w) (positioned 0 (asked_row r)) (qs ++ q ∷ [])
pairs_said ts w r qs q row p i =
    subst (λ z. AreArgumentPairs ts (asked_row w) z (qs ++ q ∷ [])) (sym (positioned_push 0 r.parts r.term row)) (pairs_end ts w.parts (positioned 0 r.parts) w.term (positioned 0 r.term) qs q p i)
