-- A handler made of clauses of a store is lawful, offers what its data says, and stays as it is where the store grows.
use Rattle.std.proofs.Common.{◌≡◌, ℕ, Bool, true, false, cond, List, [], ◌∷◌, map, Option, Some, None, refl, sym, ap, ◌∙◌, subst}
use Rattle.std.specs.List.{filter}
use Rattle.nts_model.specs.declared.labels.Sort.{Sort}
use Rattle.nts_model.specs.declared.labels.ListHead.TheVariants as list
use Rattle.nts_model.specs.declared.labels.Label.TheVariants as label
use Rattle.nts_model.specs.Terms.Trees.{Tree, empty, more, node, children, any_label}
use Rattle.nts_model.specs.Derivations.Rules.{Mode, coherence, Application}
use Rattle.nts_model.specs.Derivations.Handlers.{Candidate, Certainty, Handler, never_leaks, IsLawfulHandler}
use Rattle.nts_model.specs.Refutation.Coherence.{Covers, RulesAreOffered}
use Rattle.nts_model.specs.Terms.Substitutions.{Instance}
use Rattle.nts_delegate.specs.SameHandlers.{MeansSame}
use Rattle.nts_store.specs.declared.nodes.NodeId.{NodeId}
use Rattle.nts_terms.specs.declared.handles.Goal.{Goal}
use Rattle.nts_terms.specs.declared.handles.Predicate.{Predicate}
use Rattle.nts_store.specs.Growth.{tree_at, Extends}
use Rattle.nts_store.specs.Formed.{AreFormed}
use Rattle.nts_terms.proofs.Standing.{args_tree}
use Rattle.nts_delegate.specs.Clauses.{is_foreign, IsClauseTerm, AreBodies, HoldsClause, AreClauses, clauses_of, coinductive_of, HoldsNormClause, AreNormClauses, said_of, AreClausesReady}
use Rattle.nts_delegate.specs.Offers.{trait_of, IsArgumentPair, AreArgumentPairs, asked_by, IsOffer, takes, AreEach, AreOffersOf, AreOffers}
use Rattle.nts_delegate.specs.ClauseHandlers.{ClauseTree, equations_of, asked_in, offer_by, takes_all, offers_by, handler_by, clause_tree, clauses_in_store, normalizing, projecting, handler_with, alias_clause_tree, alias_clauses_in_store, rigid_in, handler_of}
use Rattle.nts_candidates.specs.nts_certainty.specs.Accesses.{access_of}
use Rattle.nts_candidates.specs.Offered.{certainty_of, equation_as, equation_of, constraint_of, hidden_of, premise_of, candidate_of, candidates_of}
use Rattle.nts_candidates.specs.declared.data.Equation.{Equation as EquationData}
use Rattle.nts_candidates.specs.declared.data.CandidateData.{CandidateData}
use Rattle.nts_delegate.specs.declared.alias_table.NormClause.{NormClause}
use Rattle.nts_delegate.specs.declared.clauses.Clause.{Clause}
use Rattle.nts_delegate.specs.declared.clauses.Clauses.{Clauses}
use Rattle.nts_delegate.specs.OwnTerms.{both_false}
use Rattle.nts_delegate.specs.OwnClauses.{IsOwnTerm, AreOwnTerms, IsOwnClause, AreOwnClauses}
use Rattle.nts_delegate.specs.HandlerLaws.{IsLawfulHandler-clauses, AreOffered-clauses, row_of}
use Rattle.nts_delegate.specs.AliasLaws.{IsLawfulHandler-normalizing, RulesAreOffered-normalizing}
use Rattle.nts_delegate.specs.AliasRows.{push_row, push_own}
use Rattle.nts_delegate.specs.Both.{either, IsLawfulHandler-either, RulesAreOffered-either}
use Rattle.nts_delegate.specs.Judging.{FastAnswersHold-never}
use Rattle.nts_delegate.specs.ProjectionLaws.{IsLawfulHandler-projecting, RulesAreOffered-projecting}

own_term : (ts : List Tree) (fresh : List Sort) (t : NodeId) → AreFormed ts → IsClauseTerm ts fresh t → IsOwnTerm fresh (tree_at ts t)
own_term ts fresh t f h =
    record { names = h.names; own = h.own; formed = f t h.within; closed = h.closed; well_bound = h.well_bound }

own_bodies : (ts : List Tree) (fresh : List Sort) (ps : List Predicate) → AreFormed ts → AreBodies ts fresh ps → AreOwnTerms fresh (map (λ p. tree_at ts p.node) ps)
own_bodies ts fresh [] f h = tt
own_bodies ts fresh (p ∷ ps) f h = (own_term ts fresh p.node f h.1, own_bodies ts fresh ps f h.2)

-- the arguments of a head
own_arguments : (fresh : List Sort) (us : Tree) → IsOwnTerm fresh (node (label.List list.Args) us) → IsOwnTerm fresh us
own_arguments fresh us h =
    record { names = h.names.1; own = (both_false false (any_label is_foreign us) h.own).1; formed = h.formed.1; closed = h.closed.1; well_bound = h.well_bound.1 }

own_clause : (ts : List Tree) (c : Clause) → AreFormed ts → HoldsClause ts c → IsOwnClause (clause_tree ts c)
own_clause ts c f h =
    let is = args_tree (tree_at ts c.head.node) h.head_holds.fits in
    let whole : IsOwnTerm c.fresh.items (node (label.List list.Args) (children (tree_at ts c.head.node))) = rw is at (own_term ts c.fresh.items c.head.node f h.head) in
    record {
      row = row_of (children (tree_at ts c.head.node)) whole.formed.0;
      head = own_arguments c.fresh.items (children (tree_at ts c.head.node)) whole;
      body = own_bodies ts c.fresh.items c.body.items f h.body;
    }

own_clauses : (ts : List Tree) (cs : List Clause) → AreFormed ts → AreClauses ts cs → AreOwnClauses (map (clause_tree ts) cs)
own_clauses ts [] f h = tt
own_clauses ts (c ∷ cs) f h = (own_clause ts c f h.0, own_clauses ts cs f h.1)

-- a clause of an alias, whose result stands behind its arguments
own_alias_clause : (ts : List Tree) (c : NormClause) → AreFormed ts → HoldsNormClause ts c → IsOwnClause (alias_clause_tree ts c)
own_alias_clause ts c f h =
    let is = args_tree (tree_at ts c.head.node) h.head_holds.fits in
    let whole : IsOwnTerm c.fresh.items (node (label.List list.Args) (children (tree_at ts c.head.node))) = rw is at (own_term ts c.fresh.items c.head.node f h.head) in
    let row = row_of (children (tree_at ts c.head.node)) whole.formed.0 in
    record {
      row = push_row (children (tree_at ts c.head.node)) (tree_at ts c.result.node) row;
      head = push_own c.fresh.items (children (tree_at ts c.head.node)) (tree_at ts c.result.node) row (own_arguments c.fresh.items (children (tree_at ts c.head.node)) whole) (own_term ts c.fresh.items c.result.node f h.result);
      body = own_bodies ts c.fresh.items c.body.items f h.body;
    }

own_alias_clauses : (ts : List Tree) (cs : List NormClause) → AreFormed ts → AreNormClauses ts cs → AreOwnClauses (map (alias_clause_tree ts) cs)
own_alias_clauses ts [] f h = tt
own_alias_clauses ts (c ∷ cs) f h = (own_alias_clause ts c f h.0, own_alias_clauses ts cs f h.1)

-- which tables leak is no matter of the laws of a handler that answers nothing at once
quiet_lawful : (h : Handler) → ((e g : Tree) (c : Certainty) → h.at_once e g c → ⊥) → IsLawfulHandler h → IsLawfulHandler (record h { leaks = never_leaks })
quiet_lawful h none l =
    let commute = l.commute in
    let rules = l.rules in
    let sources = l.sources in
    let keep = l.keep in
    let judges = l.judges in
    record {
      commute = record { renaming = commute.renaming };
      rules = record { instances = rules.instances; closed = rules.closed };
      sources = record { each = sources.each };
      keep = record { each = keep.each };
      judges = record { allows = judges.allows; evaluates = judges.evaluates; well_formed = judges.well_formed; goals = judges.goals };
      at_once = FastAnswersHold-never (record h { leaks = never_leaks }) none;
    }

quiet_covers : (h : Handler) (e g : Tree) (ι : Instance) (a : Application) → Covers h coherence e g ι a → Covers (record h { leaks = never_leaks }) coherence e g ι a
quiet_covers h e g ι a c =
    record {
      candidate = c.candidate;
      offered = c.offered;
      chosen = c.chosen;
      values = c.values;
      of_rule = c.of_rule;
      equations = c.equations;
      constraints = c.constraints;
      goals = c.goals;
    }

quiet_offered : (h : Handler) → RulesAreOffered h → RulesAreOffered (record h { leaks = never_leaks })
quiet_offered h o = record { covered = λ e g ι a asked r env con. quiet_covers h e g ι a (o.covered e g ι a asked r env con) }

-- the theorem: candidates commute with plain renaming, their instances are rules, rules are closed under instances,
-- and candidates keep the environment and have nothing foreign
pub IsLawfulHandler-handler_of : (ts : List Tree) (h : Clauses) → AreFormed ts → AreClausesReady ts h → IsLawfulHandler (handler_of ts h)
IsLawfulHandler-handler_of ts h f r =
    let aliases = normalizing (alias_clauses_in_store ts h) (rigid_in h) in
    let traits = handler_by (clauses_in_store ts h) (coinductive_of h) in
    let normal = IsLawfulHandler-normalizing (alias_clauses_in_store ts h) (rigid_in h) (λ a. own_alias_clauses ts (said_of h a).clauses f (r.aliases a)) in
    let of_traits = IsLawfulHandler-clauses (clauses_in_store ts h) (coinductive_of h) (λ i. own_clauses ts (clauses_of h i) f (r.clauses i)) in
    let joined = IsLawfulHandler-either (either aliases projecting) traits (IsLawfulHandler-either aliases projecting normal IsLawfulHandler-projecting) of_traits in
    quiet_lawful (either (either aliases projecting) traits) (λ e g c x. x) joined

-- .. and in coherence every rule for an instance of a goal is offered
pub AreOffered-handler_of : (ts : List Tree) (h : Clauses) → AreFormed ts → AreClausesReady ts h → RulesAreOffered (handler_of ts h)
AreOffered-handler_of ts h f r =
    let aliases = normalizing (alias_clauses_in_store ts h) (rigid_in h) in
    let traits = handler_by (clauses_in_store ts h) (coinductive_of h) in
    let normal = RulesAreOffered-normalizing (alias_clauses_in_store ts h) (rigid_in h) (λ a. own_alias_clauses ts (said_of h a).clauses f (r.aliases a)) in
    let of_traits = AreOffered-clauses (clauses_in_store ts h) (coinductive_of h) (λ i. own_clauses ts (clauses_of h i) f (r.clauses i)) in
    let joined = RulesAreOffered-either (either aliases projecting) traits (RulesAreOffered-either aliases projecting normal RulesAreOffered-projecting) of_traits in
    quiet_offered (either (either aliases projecting) traits) joined

-- the data of the offers, as trees, are the handler's offers
pair_read : (ts : List Tree) (a b : Tree) (q : EquationData) → IsArgumentPair ts a b q → equation_of ts q ≡ equation_as q.kind a b
pair_read ts a b q p = cc (p.left, p.right)

pub pairs_read : (ts : List Tree) (us vs : Tree) (qs : List EquationData) → AreArgumentPairs ts us vs qs → map (equation_of ts) qs ≡ equations_of us vs
pairs_read ts empty empty [] p = refl
pairs_read ts (more a us) (more b vs) (q ∷ qs) p =
    let here = pair_read ts a b q p.0 ∙ ap (λ k. equation_as k a b) p.0.kind in
    let there = pairs_read ts us vs qs p.1 in
    cc (here, there)
pairs_read ts us vs qs p = absurd p

pub goals_read : (ts : List Tree) (g : Goal) (ps : List Predicate) → map (premise_of ts) (map (asked_by g) ps) ≡ map (asked_in (tree_at ts g.param_env.node)) (map (λ p. tree_at ts p.node) ps)
goals_read ts g [] = refl
goals_read ts g (p ∷ ps) = cc (goals_read ts g ps)

pub offer_read : (ts : List Tree) (g : Goal) (args : Tree) (c : Clause) (d : CandidateData) → IsOffer ts g args c d → candidate_of ts d ≡ offer_by (tree_at ts g.param_env.node) (children args) (clause_tree ts c)
offer_read ts g args c d o =
    let equations = pairs_read ts (children args) (children (tree_at ts c.head.node)) d.equations.items o.equations in
    let goals = ap (map (premise_of ts)) o.goals ∙ goals_read ts g c.body.items in
    let constraints = ap (map (constraint_of ts)) o.constraints in
    let hidden = ap (map (hidden_of ts)) o.hidden in
    cc (o.fresh, equations, goals, constraints, hidden, ap certainty_of o.certainty, ap access_of o.accesses)

each_read : (ts : List Tree) (g : Goal) (args : Tree) (cs : List Clause) (ds : List CandidateData) → AreEach ts g args cs ds → candidates_of ts ds ≡ map (offer_by (tree_at ts g.param_env.node) (children args)) (map (clause_tree ts) cs)
each_read ts g args [] [] h = refl
each_read ts g args [] (d ∷ ds) h = absurd h
each_read ts g args (c ∷ cs) [] h = absurd h
each_read ts g args (c ∷ cs) (d ∷ ds) h = cc (offer_read ts g args c d h.0, each_read ts g args cs ds h.1)

taken_case : (ts : List Tree) (c : Clause) (xs : List ClauseTree) (ys : List Clause) → xs ≡ map (clause_tree ts) ys → (w : Bool) → cond w (clause_tree ts c ∷ xs) xs ≡ map (clause_tree ts) (cond w (c ∷ ys) ys)
taken_case ts c xs ys e true = ap (λ x. clause_tree ts c ∷ x) e
taken_case ts c xs ys e false = e

taken_read : (ts : List Tree) (args : Tree) (cs : List Clause) → filter (takes_all (children args)) (map (clause_tree ts) cs) ≡ map (clause_tree ts) (filter (takes ts args) cs)
taken_read ts args [] = refl
taken_read ts args (c ∷ cs) =
    taken_case ts c (filter (takes_all (children args)) (map (clause_tree ts) cs)) (filter (takes ts args) cs) (taken_read ts args cs) (takes ts args c)

pub offers_read : (ts : List Tree) (g : Goal) (h : Clauses) (ds : List CandidateData) (r : Option (ℕ × Tree)) → AreOffersOf ts g r h ds → candidates_of ts ds ≡ offers_by (clauses_in_store ts h) (tree_at ts g.param_env.node) r
offers_read ts g h ds None o = ap (candidates_of ts) o
offers_read ts g h ds (Some r) o =
    each_read ts g r.1 (filter (takes ts r.1) (clauses_of h r.0)) ds o ∙ sym (ap (map (offer_by (tree_at ts g.param_env.node) (children r.1))) (taken_read ts r.1 (clauses_of h r.0)))

-- .. of a goal
pub AreOffers-read : (ts : List Tree) (g : Goal) (h : Clauses) (ds : List CandidateData) → AreOffers ts g h ds → candidates_of ts ds ≡ offers_by (clauses_in_store ts h) (tree_at ts g.param_env.node) (trait_of (tree_at ts g.predicate.node))
AreOffers-read ts g h ds o = offers_read ts g h ds (trait_of (tree_at ts g.predicate.node)) o

-- a store that grows keeps the handler
bodies_same : (a b : List Tree) (fresh : List Sort) (ps : List Predicate) → AreBodies a fresh ps → Extends a b → map (λ p. tree_at b p.node) ps ≡ map (λ p. tree_at a p.node) ps
bodies_same a b fresh [] h e = refl
bodies_same a b fresh (p ∷ ps) h e = cc (e.kept p.node h.1.within, bodies_same a b fresh ps h.2 e)

clause_same : (a b : List Tree) (c : Clause) → HoldsClause a c → Extends a b → clause_tree b c ≡ clause_tree a c
clause_same a b c h e =
    let head = ap children (e.kept c.head.node h.head.within) in
    let body = bodies_same a b c.fresh.items c.body.items h.body e in
    cc (head, body)

clauses_same : (a b : List Tree) (cs : List Clause) → AreClauses a cs → Extends a b → map (clause_tree b) cs ≡ map (clause_tree a) cs
clauses_same a b [] h e = refl
clauses_same a b (c ∷ cs) h e = cc (clause_same a b c h.0 e, clauses_same a b cs h.1 e)

alias_clause_same : (a b : List Tree) (c : NormClause) → HoldsNormClause a c → Extends a b → alias_clause_tree b c ≡ alias_clause_tree a c
alias_clause_same a b c h e =
    let head = ap children (e.kept c.head.node h.head.within) in
    let result = e.kept c.result.node h.result.within in
    let body = bodies_same a b c.fresh.items c.body.items h.body e in
    cc (head, result, body)

alias_clauses_same : (a b : List Tree) (cs : List NormClause) → AreNormClauses a cs → Extends a b → map (alias_clause_tree b) cs ≡ map (alias_clause_tree a) cs
alias_clauses_same a b [] h e = refl
alias_clauses_same a b (c ∷ cs) h e = cc (alias_clause_same a b c h.0 e, alias_clauses_same a b cs h.1 e)

pub handler_of-kept : (a b : List Tree) (h : Clauses) → AreClausesReady a h → Extends a b → handler_of b h ≡ handler_of a h
handler_of-kept a b h r e =
    let same : clauses_in_store b h ≡ clauses_in_store a h = λ j i. clauses_same a b (clauses_of h i) (r.clauses i) e j in
    let aliases : alias_clauses_in_store b h ≡ alias_clauses_in_store a h = λ j x. alias_clauses_same a b (said_of h x).clauses (r.aliases x) e j in
    λ j. handler_with (aliases j) (rigid_in h) (same j) (coinductive_of h)

abbrev applies_in : Mode → Application → Handler → Type 0
applies_in mode a k = k.applies mode a

abbrev offers_in : Mode → Tree → Tree → Handler → List Candidate
offers_in mode t g k = k.offers mode t g

pub MeansSame-kept : (a b : List Tree) (h : Clauses) → AreClausesReady a h → Extends a b → MeansSame (handler_of b h) (handler_of a h)
MeansSame-kept a b h r e =
    let same = handler_of-kept a b h r e in
    record {
      applies = λ mode x. ((λ w. subst (applies_in mode x) same w), λ w. subst (applies_in mode x) (sym same) w);
      offers = λ mode t g. ap (offers_in mode t g) same;
      is_coinductive = λ i. refl;
      judges = refl;
      leaks = λ c u l. l;
      at_once = λ x y z w. w;
    }
