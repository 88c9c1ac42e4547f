use Rattle.nts_table.specs.TableLaws.{IsTable-extended}
use Rattle.nts_evaluation_vectors.proofs.asking.is_not_admitted.Goals as goal

pub returns-clause-table : goal.returns-clause-table
returns-clause-table c = IsTable-extended c.in_ok-goal_is_admitted.ensures.grows.extends c.requires.table
