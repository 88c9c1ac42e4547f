use Rattle.nts_table.specs.TableLaws.{IsTable-extended}
use Rattle.nts_wording.proofs.Fitted.{predicate_grown}
use Rattle.nts_delegate.specs.ClausesKept.{AreClausesReady-kept}
use Rattle.nts_reasons.proofs.Offered.{each_reason}
use Rattle.nts_reasons.proofs.Staying.{heads_later}
use Rattle.nts_reasons.proofs.explainer.reasons_of.Goals as goal

pub explain-requires-clause-table : goal.explain-requires-clause-table
explain-requires-clause-table c = IsTable-extended c.in_ok-admitted.ensures.grows.extends c.requires.table

pub explain-requires-clause-ready : goal.explain-requires-clause-ready
explain-requires-clause-ready c =
    rw c.new-rules.ensures (AreClausesReady-kept c.args.cx.now.nodes c.goal_is_admitted.new.cx.nodes c.args.clauses.now c.requires.ready c.in_ok-admitted.ensures.grows.extends)

pub returns-in-Ok-clause-reasons : goal.returns-in-Ok-clause-reasons
returns-in-Ok-clause-reasons c =
    let now = c.goal_is_admitted.new.cx in
    let grows = c.in_ok-admitted.ensures.grows in
    let gives = rw (c.new-rules.ensures, (let r = grows.rest in r.declarations)) at c.in-Ok.ensures.reasons in
    record {
      store = now.nodes;
      extends = grows.extends;
      gives = gives;
      each = each_reason now c.args.clauses.now _ _ c.args.goal (heads_later c.args.cx.now now c.args.clauses.now grows c.requires.heads)
          (predicate_grown c.args.cx.now now c.args.goal.predicate.node grows c.requires.goal.predicate.within c.requires.declared) gives;
    }
