use Rattle.std.proofs.Common.{◌≡◌, [], None, Some, map, ap, sym, ◌∙◌, subst, arith}
use Rattle.nts_model.specs.Terms.Trees.{children}
use Rattle.nts_store.specs.Growth.{tree_at}
use Rattle.nts_delegate.specs.ClauseHandlers.{clause_tree, offers_by, offers_of_clauses, clauses_in_store}
use Rattle.nts_delegate.specs.Clauses.{AreClauses, clauses_in, IsIndexed}
use Rattle.nts_delegate.specs.ClausesLawful.{offers_read}
use Rattle.nts_candidates.specs.Offered.{candidates_of}
use Rattle.nts_delegate.specs.Offers.{trait_of}
use Rattle.nts_delegate.specs.Relevant.{LeavesOut}
use Rattle.nts_delegate.specs.Relevant.LeavesOut.{none}
use Rattle.nts_delegate.proofs.Ready.{at_place, no_place}
use Rattle.nts_delegate.proofs.Relevance.{same_offered}
use Rattle.nts_candidates.proofs.Results.{IfOk-map}
use Rattle.nts_delegate.proofs.clauses.Clauses.relevant_offers.Goals as goal

pub returns-in_default-clause-offered : goal.returns-in_default-clause-offered
returns-in_default-clause-offered c =
    let ts = c.args.cx.now.nodes in
    let e = tree_at ts c.args.goal.param_env.node in
    let clauses = clauses_in_store ts c.args.self.now in
    let asked : trait_of (tree_at ts c.args.goal.predicate.node) ≡ None = ap trait_of c.kind.ensures.tree ∙ c.in_default.ensures.is ts in
    subst (λ o. LeavesOut (offers_by clauses e o) (candidates_of ts c.new.result.items)) (sym asked) (subst (λ l. LeavesOut [] (candidates_of ts l)) (sym c.new.ensures.items) none)

pub returns-in_default-first_head-clause-offered :
    goal.returns-in_default-first_head-clause-offered
returns-in_default-first_head-clause-offered c =
    let ts = c.args.cx.now.nodes in
    IfOk-map c.offers.result (λ cs h. same_offered _ _ (offers_read ts c.args.goal c.args.self.now cs.items (trait_of (tree_at ts c.args.goal.predicate.node)) h)) c.offers.ensures.offers

pub returns-in_default-get-clause-offered : goal.returns-in_default-get-clause-offered
returns-in_default-get-clause-offered c =
    let ts = c.args.cx.now.nodes in
    let e = tree_at ts c.args.goal.param_env.node in
    let clauses = clauses_in_store ts c.args.self.now in
    let args = tree_at ts c.in-Some.trait_ref.args.node in
    let asked : trait_of (tree_at ts c.args.goal.predicate.node) ≡ Some (c.in-Some.trait_ref.def_id.number, tree_at c.args.cx.now.nodes c.in-Some.trait_ref.args.node) = ap trait_of c.kind.ensures.tree ∙ c.in-Some.ensures.is ts in
    let end = c.in_default-get.ensures.lookup in
    let past = end.3 in
    let no = no_place c.args.self.now.traits.items c.deref.result.now c.in-Some.trait_ref.def_id.number c.deref.ensures.value (omega (arith, past)) in
    let empty : clauses c.in-Some.trait_ref.def_id.number ≡ [] = ap (λ o. map (clause_tree ts) (clauses_in o)) no in
    let nothing : LeavesOut (offers_of_clauses e (children args) (clauses c.in-Some.trait_ref.def_id.number)) (candidates_of ts c.new-in_default-get.result.items) =
    subst (λ cs. LeavesOut (offers_of_clauses e (children args) cs) (candidates_of ts c.new-in_default-get.result.items)) (sym empty) (subst (λ l. LeavesOut [] (candidates_of ts l)) (sym c.new-in_default-get.ensures.items) none)
    in
    subst (λ o. LeavesOut (offers_by clauses e o) (candidates_of ts c.new-in_default-get.result.items)) (sym asked) nothing

pub offers_at-requires-clause-clauses : goal.offers_at-requires-clause-clauses
offers_at-requires-clause-clauses c =
    let there = c.in-Some-get.ensures.lookup in
    let at = at_place c.args.self.now.traits.items c.deref.result.now c.in-Some.trait_ref.def_id.number c.in-Some-get.of_trait.now c.deref.ensures.value there.3.0 there.1 in
    subst (λ o. AreClauses c.args.cx.now.nodes (clauses_in o)) at (c.requires.ready.clauses c.in-Some.trait_ref.def_id.number)

pub offers_at-requires-clause-indexed : goal.offers_at-requires-clause-indexed
offers_at-requires-clause-indexed c =
    let there = c.in-Some-get.ensures.lookup in
    let at = at_place c.args.self.now.traits.items c.deref.result.now c.in-Some.trait_ref.def_id.number c.in-Some-get.of_trait.now c.deref.ensures.value there.3.0 there.1 in
    subst (λ o. IsIndexed c.args.cx.now.nodes o) at (c.requires.ready.indexed c.in-Some.trait_ref.def_id.number)

pub returns-clause-offered : goal.returns-clause-offered
returns-clause-offered c =
    let ts = c.args.cx.now.nodes in
    let e = tree_at ts c.args.goal.param_env.node in
    let clauses = clauses_in_store ts c.args.self.now in
    let args = tree_at ts c.in-Some.trait_ref.args.node in
    let asked : trait_of (tree_at ts c.args.goal.predicate.node) ≡ Some (c.in-Some.trait_ref.def_id.number, tree_at c.args.cx.now.nodes c.in-Some.trait_ref.args.node) = ap trait_of c.kind.ensures.tree ∙ c.in-Some.ensures.is ts in
    let there = c.in-Some-get.ensures.lookup in
    let at = at_place c.args.self.now.traits.items c.deref.result.now c.in-Some.trait_ref.def_id.number c.in-Some-get.of_trait.now c.deref.ensures.value there.3.0 there.1 in
    let same : map (clause_tree ts) c.in-Some-get.of_trait.now.clauses.items ≡ clauses c.in-Some.trait_ref.def_id.number = sym (ap (λ o. map (clause_tree ts) (clauses_in o)) at) in
    IfOk-map c.offers_at.result
    (λ cs h. subst (λ o. LeavesOut (offers_by clauses e o) (candidates_of ts cs.items)) (sym asked) (subst (λ l. LeavesOut (offers_of_clauses e (children args) l) (candidates_of ts cs.items)) same h))
    c.offers_at.ensures.offered
