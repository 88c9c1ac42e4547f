use Rattle.std.proofs.Common.{◌≡◌, rules, true, false, ap, sym, ◌∙◌}
use Rattle.nts_store.specs.Growth.{tree_at}
use Rattle.nts_store.proofs.Growing.{Extends-trans}
use Rattle.nts_unify.specs.Lawful.{content_of-extended}
use Rattle.nts_terms.specs.Modes.{mode_of}
use Rattle.nts_candidates.specs.Offered.{candidates_of}
use Rattle.nts_candidates.proofs.Results.{IfOk-map}
use Rattle.nts_evaluation.specs.nts_meaning.specs.Meant.{offers_of}
use Rattle.nts_evaluation.specs.nts_meaning.proofs.Evaluating.{Goes-trans, Goes-extends, IsPosed-later, offers-kept, goes-back}
use Rattle.nts_explaining.specs.Explaining.GivesReasons.{of_candidates}
use Rattle.nts_explaining.proofs.Tried.{unasked_reasons, unopened_reasons}
use Rattle.nts_explaining.proofs.candidates.explain_here.Goals as goal

pub returns-in_default-clause-reasons : goal.returns-in_default-clause-reasons
returns-in_default-clause-reasons g c = (let o = c.in_ok-opened.ensures in unopened_reasons _ (search rules) (o.unopened (search rules)))

pub returns-then-not-is_explained-clause-reasons : goal.returns-then-not-is_explained-clause-reasons
returns-then-not-is_explained-clause-reasons g c =
    let o = c.in_ok-opened.ensures in
    unasked_reasons _ (search rules) c.enter_forall.new.cx.nodes c.enter_forall.new.table _ (rw c.in-Some.is at o.opened) (λ h. absurd (let z : true ≡ false = sym (c.is_explained.ensures.1 h) ∙ c.if-not-is_explained.true in cc))

pub returns-in_err-candidates-clause-goes : goal.returns-in_err-candidates-clause-goes
returns-in_err-candidates-clause-goes g c = (let o = c.in_ok-opened.ensures in Goes-trans o.goes (Goes-extends o.goes.table c.candidates.ensures.grows.extends))

pub reasons_of-requires-clause-posed : goal.reasons_of-requires-clause-posed
reasons_of-requires-clause-posed g c =
    let o = c.in_ok-opened.ensures in
    IsPosed-later (Goes-extends o.goes.table c.candidates.ensures.grows.extends) (rw c.in-Some.is at o.posed)

pub reasons_of-requires-clause-ready : goal.reasons_of-requires-clause-ready
reasons_of-requires-clause-ready g c =
    g.met.H.GoalHandler.ready_kept _ _ _ c.requires.ready (Extends-trans c.in_ok-opened.ensures.grows.extends c.candidates.ensures.grows.extends)

pub returns-clause-goes : goal.returns-clause-goes
returns-clause-goes g c =
    let o = c.in_ok-opened.ensures in
    let r = c.reasons_of.ensures in
    Goes-trans o.goes (goes-back o.goes.table (Extends-trans c.candidates.ensures.grows.extends r.grows.extends) r.same)

-- a reason for each candidate that is offered for the goal, opened
pub returns-clause-reasons : goal.returns-clause-reasons
returns-clause-reasons g c =
    let o = c.in_ok-opened.ensures in
    let e = c.in_ok-candidates.ensures in
    let opened = rw c.in-Some.is at o.opened in
    let posed = rw c.in-Some.is at o.posed in
    let asked = c.in-Some.opened in
    let b = c.enter_forall.new.cx.nodes in
    let d = c.candidates.new.cx.nodes in
    let h = g.H.GoalHandler.handler c.args.cx.now.nodes c.args.handler.now in
    let same = g.met.H.GoalHandler.handler_kept c.args.cx.now.nodes d c.args.handler.now c.requires.ready (Extends-trans o.grows.extends e.grows.extends) in
    let here = content_of-extended e.grows.extends o.goes.table.now in
    let offered : candidates_of d c.in_ok-candidates.candidates.items ≡ offers_of h (mode_of c.args.table.now.mode) b asked =
    e.offered ∙ ap (λ m. (g.H.GoalHandler.handler d c.args.handler.now).offers (mode_of m) (tree_at d asked.param_env.node) (tree_at d asked.predicate.node)) (c.typing_mode.ensures ∙ o.goes.mode) ∙ same.offers _ _ _ ∙ offers-kept h (mode_of c.args.table.now.mode) e.grows.extends posed.holds in
    IfOk-map c.reasons_of.result (λ rs each. of_candidates b c.enter_forall.new.table asked opened (c.is_explained.ensures.0 c.if-not-is_explained.false) (rw (here, offered, c.candidates.ensures.grows.extends.kept asked.param_env.node posed.holds.env.within, (let r = e.grows.rest in r.declarations) ∙ (let r = o.grows.rest in r.declarations), o.goes.mode) at (rw c.deref.ensures.value at each))) c.reasons_of.ensures.each
