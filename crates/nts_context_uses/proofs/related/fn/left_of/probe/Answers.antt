use Rattle.nts_contexts.proofs.Frames.{keeps_then}
use Rattle.nts_context_uses.proofs.related.fn.left_of.probe.Goals as goal

pub returns-in_err-certainty : goal.returns-in_err-certainty
returns-in_err-certainty c = record { keeps = keeps_then c.relate.ensures.keeps c.try_evaluate_added_goals.ensures.keeps }

pub returns : goal.returns
returns c = record { keeps = keeps_then c.relate.ensures.keeps c.try_evaluate_added_goals.ensures.keeps }
