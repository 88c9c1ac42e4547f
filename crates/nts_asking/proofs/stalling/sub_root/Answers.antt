use Rattle.std.proofs.Common.{arith}
use Rattle.nts_canonical.proofs.SubRooted.{sub_root_is}
use Rattle.nts_asking.proofs.KeptStalled.{unknown_root}
use Rattle.nts_asking.proofs.stalling.sub_root.Goals as goal

pub returns-then-n-variable_count : goal.returns-then-n-variable_count
returns-then-n-variable_count c = sub_root_is _ c.requires _ _ c.sub_unification_table_root_var.ensures

pub returns-else-n-variable_count : goal.returns-else-n-variable_count
returns-else-n-variable_count c = unknown_root c.args.table.now.entries c.args.n (omega arith)
