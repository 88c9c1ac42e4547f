use Rattle.nts_table.specs.TableLaws.{IsTable-extended}
use Rattle.nts_store.proofs.Growing.{Extends-refl}
use Rattle.nts_delegate.specs.ClausesKept.{AreClausesReady-kept}
use Rattle.nts_program.proofs.Asking.{values-run}
use Rattle.nts_program.proofs.Justifying.{earlier}
use Rattle.nts_wording.proofs.Telling.{values-extended}
use Rattle.nts_program.proofs.answer.evaluated.Goals as goal

pub evaluate_root_goal-requires-clause-table : goal.evaluate_root_goal-requires-clause-table
evaluate_root_goal-requires-clause-table c = IsTable-extended c.in_ok-admitted.ensures.grows.extends c.requires.table

pub returns-in-Ok-clause-values : goal.returns-in-Ok-clause-values
returns-in-Ok-clause-values c =
    values-run c.args.values.now c.in-Ok.ensures.runs (values-extended c.args.values.now c.requires.table c.in_ok-admitted.ensures.grows.extends c.requires.values)

pub returns-in-Ok-clause-proved : goal.returns-in-Ok-clause-proved
returns-in-Ok-clause-proved c = λ e.
    let now = c.goal_is_admitted.new.cx in
    earlier c.args.cx.now now _ c.args.clauses.now _ c.args.goal c.in_ok-admitted.ensures.grows
    (record {
      store = now.nodes;
      extends = Extends-refl now.nodes;
      proved = rw c.in-Ok.ensures.runs.goes.mode (rw c.new-rules.ensures at c.in-Ok.ensures.proved (cc e));
    })

pub evaluate_root_goal-requires-clause-ready : goal.evaluate_root_goal-requires-clause-ready
evaluate_root_goal-requires-clause-ready c =
    rw c.new-rules.ensures (AreClausesReady-kept c.args.cx.now.nodes c.goal_is_admitted.new.cx.nodes c.args.clauses.now c.requires.ready c.in_ok-admitted.ensures.grows.extends)
