use Rattle.nts_table.specs.TableLaws.{IsTable-extended}
use Rattle.nts_fault_rows.proofs.rows.canonicalize.Goals as goal

pub returns : goal.returns
returns c = IsTable-extended c.canonicalize_goal.ensures.grows.extends c.in_ok-goal.ensures
