use Rattle.nts_contexts.proofs.Frames.{keeps_then}
use Rattle.nts_alias_uses.proofs.normal.is_below.Goals as goal

pub returns-in_err-try_evaluate_added_goals : goal.returns-in_err-try_evaluate_added_goals
returns-in_err-try_evaluate_added_goals c = record { keeps = keeps_then c.in_ok-sub.ensures.keeps c.try_evaluate_added_goals.ensures.keeps }

pub returns : goal.returns
returns c = record { keeps = keeps_then c.in_ok-sub.ensures.keeps c.in_ok-try_evaluate_added_goals.ensures.keeps }
