use Rattle.std.proofs.lemmas.List.{take_all}
use Rattle.nts_store.proofs.Growing.{Extends-trans}
use Rattle.nts_terms.proofs.Moved.{KeepsRest-trans}
use Rattle.std.proofs.Common.{subst}
use Rattle.nts_wording.specs.Meaning.{States}
use Rattle.nts_wording.proofs.Rules.{conditions_said, stated_push}
use Rattle.nts_wording.proofs.sentences.conditions.Goals as goal

pub loop-bound-preserved : goal.loop-bound-preserved
loop-bound-preserved c =
    let i = c.loop-bound.invariant in
    let e = c.in_ok-predicate_of.ensures in
    record {
      extends = Extends-trans i.extends e.grows.extends;
      since = Extends-trans i.since e.grows.extends;
      rest = KeepsRest-trans i.rest e.grows.rest;
      stated = rw c.in_ok-push.ensures.items (stated_push c.loop-bound.cx.nodes c.predicate_of.new.cx.nodes c.deref-bound-items.result.now c.loop-bound.bound-index _ c.loop-bound.predicates.items _ c.loop-bound-test.true i.stated e.grows.extends (subst (λ b. States c.predicate_of.new.cx.nodes b c.in_ok-predicate_of.field-0) c.bound-item.is e.states));
    }

pub returns-clause-conditions : goal.returns-clause-conditions
returns-clause-conditions c =
    let i = c.loop-bound.invariant in
    let clauses = c.deref-bound-items.result.now in
    conditions_said c.bound_clauses.new.cx.nodes c.loop-bound.cx.nodes c.args.terms.variables.now c.args.terms.values.now c.args.body.now clauses c.loop-bound.predicates.items
    (rw c.deref-bound-items.ensures.value c.in_ok-found.ensures.said) i.since (rw (take_all c.loop-bound.bound-index clauses c.loop-bound-test.false) at i.stated)
