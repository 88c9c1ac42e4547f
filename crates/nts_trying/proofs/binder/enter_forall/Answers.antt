use Rattle.std.proofs.Common.{rules, ◌≡◌, ◌∙◌, refl, sym, ap, subst, true, false}
use Rattle.nts_model.specs.Derivations.Related.{unbound}
use Rattle.nts_model.specs.Refutation.Opening.{placeholder_in}
use Rattle.nts_terms.proofs.Moved.{KeepsRest-trans}
use Rattle.std.specs.Prelude.{is_some}
use Rattle.nts_model.specs.Terms.Trees.{IsClosed}
use Rattle.nts_store.specs.Growth.{tree_at}
use Rattle.nts_store.proofs.Escaping.{closed_by_facts, open_by_facts}
use Rattle.nts_store.proofs.Growing.{Extends-refl, Extends-trans}
use Rattle.nts_terms.proofs.Standing.{vars_tree}
use Rattle.nts_meaning.proofs.Evaluating.{Goes-extends, Goes-trans, IsTermIn-later, env_term, kind-extended, goal_posed}
use Rattle.nts_trying.proofs.Entering.{cannot_open, goal_opened, statement_tree, statement_closed, opened_is_closed}
use Rattle.nts_trying.proofs.binder.enter_forall.Goals as goal

pub returns-then-len-eq0-clause-goes : goal.returns-then-len-eq0-clause-goes
returns-then-len-eq0-clause-goes c = Goes-extends c.requires.posed.table (Extends-refl _)

pub returns-then-is_some-clause-goes : goal.returns-then-is_some-clause-goes
returns-then-is_some-clause-goes c = Goes-extends c.requires.posed.table (Extends-refl _)

pub returns-then-is_some-clause-unopened : goal.returns-then-is_some-clause-unopened
returns-then-is_some-clause-unopened c = λ e.
    let p = tree_at c.args.cx.now.nodes c.args.goal.predicate.node in
    let escapes : is_some c.flags.result.escaping ≡ true = first_of (cc, search rules) in
    cannot_open c.args.cx.now.nodes c.kind-predicate.result _ c.kind-predicate.ensures.tree (vars_tree _ c.kind-predicate.ensures.fits.0.fits) c.len.ensures.row (λ e. c.if-len-eq0.false (c.len.ensures.count ∙ e)) (open_by_facts p c.flags.result c.flags.ensures escapes)

pub open_statement-requires-clause-levels : goal.open_statement-requires-clause-levels
open_statement-requires-clause-levels c =
    let p = tree_at c.args.cx.now.nodes c.args.goal.predicate.node in
    let free : is_some c.flags.result.escaping ≡ false = first_of (cc, search rules) in
    let closed : IsClosed (tree_at c.args.cx.now.nodes c.args.goal.predicate.node) = closed_by_facts p c.flags.result c.flags.ensures free in
    statement_closed p _ _ (statement_tree c.args.cx.now.nodes c.kind-predicate.result p (tree_at c.args.cx.now.nodes c.child.result) c.kind-predicate.ensures.tree c.child.ensures.tree) closed

pub without_binder-requires-clause-closed : goal.without_binder-requires-clause-closed
without_binder-requires-clause-closed c =
    let p = tree_at c.args.cx.now.nodes c.args.goal.predicate.node in
    let free : is_some c.flags.result.escaping ≡ false = first_of (cc, search rules) in
    let closed : IsClosed (tree_at c.args.cx.now.nodes c.args.goal.predicate.node) = closed_by_facts p c.flags.result c.flags.ensures free in
    let levels = statement_closed p _ _ (statement_tree c.args.cx.now.nodes c.kind-predicate.result p (tree_at c.args.cx.now.nodes c.child.result) c.kind-predicate.ensures.tree c.child.ensures.tree) closed in
    subst IsClosed (sym c.in_ok-statement.ensures.tree) (opened_is_closed (placeholder_in _) 0 1 _ refl levels)

pub returns-in_err-opened-clause-grows : goal.returns-in_err-opened-clause-grows
returns-in_err-opened-clause-grows c = (let k = c.open_statement.ensures.grows in let m = c.without_binder.ensures.grows in record { extends = Extends-trans k.extends m.extends; rest = KeepsRest-trans k.rest m.rest })

pub returns-in_err-opened-clause-goes : goal.returns-in_err-opened-clause-goes
returns-in_err-opened-clause-goes c = (let k = c.open_statement.ensures.goes in Goes-trans k (Goes-extends k.table c.without_binder.ensures.grows.extends))

pub returns-clause-goes : goal.returns-clause-goes
returns-clause-goes c = (let k = c.open_statement.ensures.goes in Goes-trans k (Goes-extends k.table c.without_binder.ensures.grows.extends))

pub returns-clause-posed : goal.returns-clause-posed
returns-clause-posed c =
    let k = c.open_statement.ensures.goes in
    let m = c.without_binder.ensures.grows in
    let goes = Goes-trans k (Goes-extends k.table m.extends) in
    let up = Extends-trans c.open_statement.ensures.grows.extends m.extends in
    let o = c.in_ok-opened.ensures in
    let env = c.requires.posed.holds.env in
    goal_posed goes.table (IsTermIn-later goes (env_term c.requires.posed)) (kind-extended up env.within env.fits) (record { within = o.holds.within; knows = o.knows }) o.holds.fits

pub returns-clause-opened : goal.returns-clause-opened
returns-clause-opened c =
    let p = tree_at c.args.cx.now.nodes c.args.goal.predicate.node in
    let free : is_some c.flags.result.escaping ≡ false = first_of (cc, search rules) in
    let closed : IsClosed (tree_at c.args.cx.now.nodes c.args.goal.predicate.node) = closed_by_facts p c.flags.result c.flags.ensures free in
    let up = Extends-trans c.open_statement.ensures.grows.extends c.without_binder.ensures.grows.extends in
    let is = statement_tree c.args.cx.now.nodes c.kind-predicate.result p (tree_at c.args.cx.now.nodes c.child.result) c.kind-predicate.ensures.tree c.child.ensures.tree in
    goal_opened c.in_ok-opened.opened _ _ is (vars_tree _ c.kind-predicate.ensures.fits.0.fits) c.len.ensures.row (λ e. c.if-len-eq0.false (c.len.ensures.count ∙ e)) closed c.requires.posed.table up c.in_ok-statement.ensures.entries
    (c.in_ok-opened.ensures.tree ∙ ap unbound c.in_ok-statement.ensures.tree)
