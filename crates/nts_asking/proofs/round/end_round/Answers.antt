use Rattle.std.proofs.Common.{rules, ap}
use Rattle.nts_asking.specs.declared.round.Ended.{Ended}
use Rattle.nts_asking.proofs.round.end_round.Goals as goal

pub returns-in-Err-clause-off : goal.returns-in-Err-clause-off
returns-in-Err-clause-off c = (c.pop-entry.result, record { popped = c.pop-entry.ensures.popped; kept = c.pop-entry.ensures.kept; rest = c.pop-entry.ensures.rest }, tt)

pub returns-in_err-ended-clause-off : goal.returns-in_err-ended-clause-off
returns-in_err-ended-clause-off c = (c.pop-entry.result, record { popped = c.pop-entry.ensures.popped; kept = c.pop-entry.ensures.kept; rest = c.pop-entry.ensures.rest }, search rules)

pub returns-clause-off : goal.returns-clause-off
returns-clause-off c = (c.pop-entry.result, record { popped = c.pop-entry.ensures.popped; kept = c.pop-entry.ensures.kept; rest = c.pop-entry.ensures.rest }, ap (λ (z : Ended). z.entry) c.in_ok-ended.ensures.ok)
