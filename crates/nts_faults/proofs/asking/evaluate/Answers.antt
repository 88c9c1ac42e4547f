use Rattle.nts_table.specs.TableLaws.{IsTable-extended}
use Rattle.nts_faults.proofs.asking.evaluate.Goals as goal

pub content_of-requires : goal.content_of-requires
content_of-requires c = IsTable-extended c.in_ok-goal_is_admitted.ensures.grows.extends c.requires.table

pub evaluate_root_goal-requires-clause-table : goal.evaluate_root_goal-requires-clause-table
evaluate_root_goal-requires-clause-table c = IsTable-extended c.in_ok-goal_is_admitted.ensures.grows.extends c.requires.table
