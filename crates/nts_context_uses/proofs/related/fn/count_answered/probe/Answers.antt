use Rattle.nts_contexts.proofs.Frames.{keeps_then}
use Rattle.nts_context_uses.proofs.related.fn.count_answered.probe.Goals as goal

pub returns-in_err-add_goals : goal.returns-in_err-add_goals
returns-in_err-add_goals c = record { keeps = keeps_then c.eq_and_get_goals.ensures.keeps c.add_goals.ensures.keeps }

pub returns : goal.returns
returns c = record { keeps = keeps_then c.eq_and_get_goals.ensures.keeps c.add_goals.ensures.keeps }
