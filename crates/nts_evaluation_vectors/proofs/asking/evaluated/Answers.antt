use Rattle.nts_table.specs.TableLaws.{IsTable-extended}
use Rattle.nts_evaluation_vectors.proofs.asking.evaluated.Goals as goal

pub evaluate_root_goal-requires-clause-table : goal.evaluate_root_goal-requires-clause-table
evaluate_root_goal-requires-clause-table g c = IsTable-extended c.in_ok-goal_is_admitted.ensures.grows.extends c.requires.table
