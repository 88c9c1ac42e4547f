-- The snapshot knows what the table knew, so what is decided there is decided in it.
use Rattle.std.proofs.Common.{rules, true}
use Rattle.nts_evaluation.proofs.Deciding.{determinate_after, decided_error}
use Rattle.nts_may_hold.proofs.may_hold.evaluate_and_roll_back.Goals as goal

pub returns-in_err-evaluated-clause-decided : goal.returns-in_err-evaluated-clause-decided
returns-in_err-evaluated-clause-decided g c = λ s b d may.
    decided_error b _ _ c.evaluate_root-evaluated.result c.from_residual-in_err-evaluated.result (search rules) (search rules) (c.evaluate_root-evaluated.ensures.decided s b (determinate_after c.start_snapshot.ensures.entries c.start_snapshot.ensures.mode d) may)

pub returns-clause-decided : goal.returns-clause-decided
returns-clause-decided g c = λ s b d may. c.in_ok-evaluated.ensures.decided s b (determinate_after c.start_snapshot.ensures.entries c.start_snapshot.ensures.mode d) may

pub returns-in_err-evaluated-clause-only_fact : goal.returns-in_err-evaluated-clause-only_fact
returns-in_err-evaluated-clause-only_fact g c = λ s f may.
    decided_error true _ _ c.evaluate_root-evaluated.result c.from_residual-in_err-evaluated.result (search rules) (search rules) (c.evaluate_root-evaluated.ensures.only_fact s (rw (c.start_snapshot.ensures.entries, c.start_snapshot.ensures.mode) f) may)

pub returns-clause-only_fact : goal.returns-clause-only_fact
returns-clause-only_fact g c = λ s f may. c.in_ok-evaluated.ensures.only_fact s (rw (c.start_snapshot.ensures.entries, c.start_snapshot.ensures.mode) f) may

pub returns-clause-evaluated : goal.returns-clause-evaluated
returns-clause-evaluated g c = λ s.
    record {
      store = c.evaluate_root-evaluated.new.cx.nodes;
      after = c.evaluate_root-evaluated.new.table;
      changed = c.in_ok-evaluated.field-0.has_changed;
      evaluates = rw (c.start_snapshot.ensures.entries, c.start_snapshot.ensures.mode) at (c.in_ok-evaluated.ensures.evaluates s);
    }
