use Rattle.nts_table.specs.TableLaws.{IsTable-extended}
use Rattle.nts_faults.proofs.asking.ask_outlives.Goals as goal

pub evaluate-requires-clause-table : goal.evaluate-requires-clause-table
evaluate-requires-clause-table c = IsTable-extended c.outlives_of.ensures.grows.extends c.requires
