-- What clauses of aliases offer, found clause by clause, and beside what clauses of traits offer.
use Rattle.std.proofs.Common.{◌≡◌, ◌⊎◌, inl, inr, ℕ, zero, suc, ◌+◌, ◌<◌, Bool, true, false, List, [], ◌∷◌, ◌++◌, length, get_or, take, map, Option, Some, None, eq-eqb, refl, ap, sym, ◌∙◌, subst, ⊎_elim, arith}
use Rattle.std.specs.Prelude.{IsSome}
use Rattle.std.specs.List.{filter}
use Rattle.std.proofs.lemmas.List.{take_more, map_push, map-append}
use Rattle.nts_model.specs.declared.labels.AliasHead.{AliasHead}
use Rattle.nts_model.specs.Terms.Trees.{Tree, empty, more, node, children, row_length, row_push, is_canonical, IsRow}
use Rattle.nts_model.specs.Derivations.Handlers.{Candidate, IsAsked}
use Rattle.nts_store.specs.Growth.{tree_at}
use Rattle.nts_terms.specs.declared.handles.Goal.{Goal}
use Rattle.nts_candidates.specs.declared.data.Equation.{Equation}
use Rattle.nts_candidates.specs.declared.data.CandidateData.{CandidateData}
use Rattle.nts_candidates.specs.nts_certainty.specs.Accesses.{access_of}
use Rattle.nts_candidates.specs.Offered.{certainty_of, constraint_of, hidden_of, premise_of, candidate_of, candidates_of}
use Rattle.nts_delegate.specs.declared.alias_table.NormClause.{NormClause}
use Rattle.nts_delegate.specs.declared.clauses.Clauses.{Clauses}
use Rattle.nts_delegate.specs.AliasOffers.{head_row, IsNormalOffer}
use Rattle.nts_delegate.specs.Candidates.{IsAskedIn, IsCandidate, AreCandidates}
use Rattle.nts_delegate.specs.Clauses.{is_foreign, HoldsNormClause, AreNormClauses}
use Rattle.nts_delegate.specs.ClauseHandlers.{AliasAsked, normalization_of, asked_row, offer_by, takes_all, offers_of_clauses, alias_clause_tree, ClausesOfAliases, alias_offers, alias_clauses_in_store, rigid_in}
use Rattle.nts_delegate.specs.Offers.{trait_of, IsTraits, IsArgumentPair, AreArgumentPairs, AreOffers}
use Rattle.nts_delegate.specs.ClausesLawful.{pairs_read, goals_read}
use Rattle.nts_delegate.specs.HandlerLaws.{IsTraitGoal, IsOtherGoal, trait_or_other}
use Rattle.nts_delegate.specs.AliasGoals.{asked_to_normalize}
use Rattle.nts_delegate.specs.AliasRows.{push_length, push_closed, push_lacks, push_names, push_leaves, push_well_bound}
use Rattle.nts_delegate.proofs.Offering.{children_lack, children_named, children_well_bound, closed_children, pairs_over, asked_nested, not_equal, candidates_push, filter_kept, filter_left}

-- one pair more, at the end
pub pairs_end : (ts : List Tree) (us vs a b : Tree) (qs : List Equation) (q : Equation) → AreArgumentPairs ts us vs qs → IsArgumentPair ts a b q → AreArgumentPairs ts (row_push us a) (row_push vs b) (qs ++ q ∷ [])
pairs_end ts empty empty a b [] q p w = (w, tt)
pairs_end ts empty empty a b (x ∷ qs) q p w = absurd p
pairs_end ts empty (more c vs) a b qs q p w = absurd p
pairs_end ts empty (node l c) a b qs q p w = absurd p
pairs_end ts (more c us) empty a b qs q p w = absurd p
pairs_end ts (more c us) (node l d) a b qs q p w = absurd p
pairs_end ts (more c us) (more d vs) a b [] q p w = absurd p
pairs_end ts (more c us) (more d vs) a b (x ∷ qs) q p w = (p.0, pairs_end ts us vs a b qs q p.1 w)
pairs_end ts (node l c) vs a b qs q p w = absurd p

-- the data of an offer as a tree
pub normal_read : (ts : List Tree) (g : Goal) (w : AliasAsked) (c : NormClause) (d : CandidateData) → IsNormalOffer ts g w c d → candidate_of ts d ≡ offer_by (tree_at ts g.param_env.node) (asked_row w) (alias_clause_tree ts c)
normal_read ts g w c d o =
    let equations = pairs_read ts (asked_row w) (head_row ts c) d.equations.items o.equations in
    let goals = ap (map (premise_of ts)) o.goals ∙ goals_read ts g c.body.items in
    let constraints = ap (map (constraint_of ts)) o.constraints in
    let hidden = ap (map (hidden_of ts)) o.hidden in
    cc (o.fresh, equations, goals, constraints, hidden, ap certainty_of o.certainty, ap access_of o.accesses)

pub normal_is_candidate : (ts : List Tree) (g : Goal) (w : AliasAsked) (c : NormClause) (d : CandidateData) → IsAskedIn ts g → normalization_of (tree_at ts g.predicate.node) ≡ Some w → HoldsNormClause ts c → IsRow (children (tree_at ts c.head.node)) → IsNormalOffer ts g w c d → IsCandidate ts g d
normal_is_candidate ts g w c d a n h row o =
    let asked = asked_to_normalize (tree_at ts g.param_env.node) (tree_at ts g.predicate.node) w a.asked n in
    let mine = asked.formed.row in
    let parts = asked.parts.parts c.fresh.items in
    let term = asked.parts.term c.fresh.items in
    let head = tree_at ts c.head.node in
    let us = children head in
    let result = tree_at ts c.result.node in
    record {
      hidden = o.hidden;
      accesses = o.accesses;
      equations = rw o.fresh (pairs_over ts c.fresh.items g (asked_row w) (head_row ts c) d.equations.items o.equations
          (push_closed 0 w.parts w.term mine parts.closed term.closed) (push_closed 0 us result row (closed_children head h.head_holds.fits h.head.closed) h.result.closed)
          (push_lacks is_canonical w.parts w.term mine asked.parts.no_parts asked.parts.no_term)
          (λ l x. ⊎_elim (asked.parts.of_parts l) (asked.parts.of_term l) (push_leaves l w.parts w.term mine x))
          (push_names c.fresh.items us result row (children_named c.fresh.items head h.head.names) h.result.names)
          (push_lacks is_foreign us result row (children_lack is_foreign head h.head.own) h.result.own)
          (push_well_bound w.parts w.term mine parts.well_bound term.well_bound) (push_well_bound us result row (children_well_bound head h.head.well_bound) h.result.well_bound));
      constraints = rw o.constraints tt;
      goals = rw (o.fresh, o.goals) (asked_nested ts c.fresh.items g c.body.items a h.body);
    }

-- what the first clauses of an alias offer
pub record AreNormalFound (ts : List Tree) (g : Goal) (w : AliasAsked) (cs : List NormClause) (ds : List CandidateData) : Type 0 where
  pub offered : candidates_of ts ds ≡ offers_of_clauses (tree_at ts g.param_env.node) (asked_row w) (map (alias_clause_tree ts) cs)
  pub candidates : AreCandidates ts g ds

-- a clause takes as many arguments as are asked where its head has as many
long_enough : (us vs a b : Tree) → IsRow us → IsRow vs → row_length us ≡ row_length vs → row_length (row_push us a) ≡ row_length (row_push vs b)
long_enough us vs a b r s e = push_length us a r ∙ ap (λ n. n + 1) e ∙ sym (push_length vs b s)

pub takes_clause : (ts : List Tree) (w : AliasAsked) (c : NormClause) → IsRow w.parts → IsRow (children (tree_at ts c.head.node)) → row_length w.parts ≡ row_length (children (tree_at ts c.head.node)) → takes_all (asked_row w) (alias_clause_tree ts c) ≡ true
takes_clause ts w c r s e = eq-eqb _ _ (long_enough w.parts (children (tree_at ts c.head.node)) w.term (tree_at ts c.result.node) r s e)

pub leaves_clause : (ts : List Tree) (w : AliasAsked) (c : NormClause) → IsRow w.parts → IsRow (children (tree_at ts c.head.node)) → (row_length w.parts ≡ row_length (children (tree_at ts c.head.node)) → ⊥) → takes_all (asked_row w) (alias_clause_tree ts c) ≡ false
leaves_clause ts w c r s n =
    let us = children (tree_at ts c.head.node) in
    let v = tree_at ts c.result.node in
    not_equal _ _ (λ e. n (one_less _ _ (sym (push_length w.parts w.term r) ∙ e ∙ push_length us v s)))
  where
    one_less : (m n : ℕ) → m + 1 ≡ n + 1 → m ≡ n
    one_less m n e = omega (arith, e)

pub normal_more : (ts : List Tree) (g : Goal) (w : AliasAsked) (cs ls : List NormClause) (ds es : List CandidateData) (c : NormClause) (d : CandidateData) → AreNormalFound ts g w cs ds → takes_all (asked_row w) (alias_clause_tree ts c) ≡ true
    → candidate_of ts d ≡ offer_by (tree_at ts g.param_env.node) (asked_row w) (alias_clause_tree ts c) → IsCandidate ts g d → ls ≡ cs ++ c ∷ [] → es ≡ ds ++ d ∷ [] → AreNormalFound ts g w ls es
normal_more ts g w cs ls ds es c d f t o k l e =
    let env = tree_at ts g.param_env.node in
    let us = asked_row w in
    let trees = map (alias_clause_tree ts) cs in
    let taken : filter (takes_all us) (map (alias_clause_tree ts) (cs ++ c ∷ [])) ≡ filter (takes_all us) trees ++ alias_clause_tree ts c ∷ [] =
    ap (filter (takes_all us)) (map_push (alias_clause_tree ts) cs c) ∙ filter_kept (takes_all us) trees (alias_clause_tree ts c) t in
    let offers : offers_of_clauses env us (map (alias_clause_tree ts) (cs ++ c ∷ [])) ≡ offers_of_clauses env us trees ++ offer_by env us (alias_clause_tree ts c) ∷ [] =
    ap (map (offer_by env us)) taken ∙ map_push (offer_by env us) (filter (takes_all us) trees) (alias_clause_tree ts c) in
    let said : candidates_of ts (ds ++ d ∷ []) ≡ offers_of_clauses env us (map (alias_clause_tree ts) (cs ++ c ∷ [])) =
    map_push (candidate_of ts) ds d ∙ ap (λ xs. xs ++ candidate_of ts d ∷ []) f.offered ∙ ap (λ x. offers_of_clauses env us trees ++ x ∷ []) o ∙ sym offers in
    rw (l, e) (record { offered = said; candidates = candidates_push ts g ds d f.candidates k })

pub normal_same : (ts : List Tree) (g : Goal) (w : AliasAsked) (cs ls : List NormClause) (ds es : List CandidateData) (c : NormClause) → AreNormalFound ts g w cs ds → takes_all (asked_row w) (alias_clause_tree ts c) ≡ false → ls ≡ cs ++ c ∷ [] → es ≡ ds → AreNormalFound ts g w ls es
normal_same ts g w cs ls ds es c f t l e =
    let us = asked_row w in
    let left : filter (takes_all us) (map (alias_clause_tree ts) (cs ++ c ∷ [])) ≡ filter (takes_all us) (map (alias_clause_tree ts) cs) =
    ap (filter (takes_all us)) (map_push (alias_clause_tree ts) cs c) ∙ filter_left (takes_all us) (map (alias_clause_tree ts) cs) (alias_clause_tree ts c) t in
    rw (l, e) (record { offered = f.offered ∙ sym (ap (map (offer_by (tree_at ts g.param_env.node) us)) left); candidates = f.candidates })

pub norm_taken : (cs : List NormClause) (i : ℕ) (c : NormClause) → i < length cs → c ≡ get_or cs i c → take (i + 1) cs ≡ take i cs ++ c ∷ []
norm_taken cs i c l e = take_more cs i c l ∙ ap (λ x. take i cs ++ x ∷ []) (sym e)

pub norm_clause_at : (ts : List Tree) (cs : List NormClause) (i : ℕ) (c : NormClause) → AreNormClauses ts cs → i < length cs → c ≡ get_or cs i c → HoldsNormClause ts c
norm_clause_at ts [] i c h l e = absurd (omega arith)
norm_clause_at ts (x ∷ cs) zero c h l e = rw e h.0
norm_clause_at ts (x ∷ cs) (suc i) c h l e = norm_clause_at ts cs i c h.1 (omega arith) e

-- a goal of a trait says nothing of an alias
alone : (clauses : ClausesOfAliases) (is_rigid : AliasHead → Bool) (e g : Tree) → IsTraitGoal g ⊎ IsOtherGoal g → IsSome (trait_of g) → alias_offers clauses is_rigid e g ≡ []
alone clauses is_rigid e g (inl t) h = rw t.is refl
alone clauses is_rigid e g (inr o) h = absurd (not_one (trait_of g) o.none h)
  where
    not_one : (x : Option (ℕ × Tree)) → x ≡ None → IsSome x → ⊥
    not_one None p q = cc
    not_one (Some y) p q = cc

pub trait_alone : (clauses : ClausesOfAliases) (is_rigid : AliasHead → Bool) (e g : Tree) → IsAsked e g → IsSome (trait_of g) → alias_offers clauses is_rigid e g ≡ []
trait_alone clauses is_rigid e g a h = alone clauses is_rigid e g (trait_or_other e g a) h

-- what is offered for aliases, and behind it what is offered for traits
pub joined_offered : (ts : List Tree) (cs ds : List CandidateData) (xs ys : List Candidate) → candidates_of ts cs ≡ xs → candidates_of ts ds ≡ ys → candidates_of ts (cs ++ ds) ≡ xs ++ ys
joined_offered ts cs ds xs ys p q = map-append (candidate_of ts) cs ds ∙ cc (p, q)

none_mapped : (ts : List Tree) (cs : List CandidateData) → candidates_of ts cs ≡ [] → cs ≡ []
none_mapped ts [] e = refl
none_mapped ts (c ∷ cs) e = cc

-- .. which is all for a goal of a trait
pub joined_of_trait : (a b : List Tree) (g : Goal) (h : Clauses) (cs ds : List CandidateData) → IsAskedIn a g → IsTraits a g → b ≡ a → candidates_of b cs ≡ alias_offers (alias_clauses_in_store b h) (rigid_in h) (tree_at b g.param_env.node) (tree_at b g.predicate.node) → AreOffers b g h ds → AreOffers b g h (cs ++ ds)
joined_of_trait a b g h cs ds k t e o m =
    let asked = subst (λ z. IsAskedIn z g) (sym e) k in
    let traits : IsTraits b g = subst (λ z. IsTraits z g) (sym e) t in
    let alone = trait_alone (alias_clauses_in_store b h) (rigid_in h) (tree_at b g.param_env.node) (tree_at b g.predicate.node) asked.asked traits in
    let none = none_mapped b cs (o ∙ alone) in
    subst (λ z. AreOffers b g h (z ++ ds)) (sym none) m
