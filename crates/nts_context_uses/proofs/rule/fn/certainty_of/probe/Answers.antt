use Rattle.nts_contexts.proofs.Frames.{keeps_then}
use Rattle.nts_context_uses.proofs.rule.fn.certainty_of.probe.Goals as goal

pub returns-in_err-certainty : goal.returns-in_err-certainty
returns-in_err-certainty c = record { keeps = keeps_then c.add_goal.ensures.keeps c.try_evaluate_added_goals.ensures.keeps }

pub returns-in_err-response : goal.returns-in_err-response
returns-in_err-response c = record { keeps = keeps_then (keeps_then c.add_goal.ensures.keeps c.try_evaluate_added_goals.ensures.keeps) c.evaluate_added_goals_and_make_canonical_response.ensures.keeps }

pub returns : goal.returns
returns c = record { keeps = keeps_then (keeps_then c.add_goal.ensures.keeps c.try_evaluate_added_goals.ensures.keeps) c.evaluate_added_goals_and_make_canonical_response.ensures.keeps }
