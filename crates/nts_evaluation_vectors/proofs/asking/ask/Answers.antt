use Rattle.nts_table.specs.TableLaws.{IsTable-extended}
use Rattle.nts_evaluation_vectors.proofs.asking.ask.Goals as goal

pub ask_goal-requires-clause-table : goal.ask_goal-requires-clause-table
ask_goal-requires-clause-table g c = IsTable-extended c.in_ok-goal-in-Goal.ensures.grows.extends c.requires.table
