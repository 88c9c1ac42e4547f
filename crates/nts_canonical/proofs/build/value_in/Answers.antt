use Rattle.nts_table.specs.TableLaws.{IsTable-extended}
use Rattle.nts_canonical.proofs.Adding.{type_within}
use Rattle.nts_canonical.proofs.build.value_in.Goals as goal

pub variable_in_universe-requires-clause-within : goal.variable_in_universe-requires-clause-within
variable_in_universe-requires-clause-within c =
    rw c.type_variable_at-other.ensures (type_within c.args.cx.now.nodes c.args.table.now.entries c.args.var_values.now c.in-Ty.sub_root c.requires.values)

pub returns-in_err-leaf_arg-in-PlaceholderTy-clause-table : goal.returns-in_err-leaf_arg-in-PlaceholderTy-clause-table
returns-in_err-leaf_arg-in-PlaceholderTy-clause-table c = IsTable-extended c.leaf_arg.ensures.extends c.requires.table

pub returns-in_err-leaf_arg-in-PlaceholderRegion-clause-table : goal.returns-in_err-leaf_arg-in-PlaceholderRegion-clause-table
returns-in_err-leaf_arg-in-PlaceholderRegion-clause-table c = IsTable-extended c.leaf_arg-in-PlaceholderRegion.ensures.extends c.requires.table

pub returns-in_err-leaf_arg-in-PlaceholderConst-clause-table : goal.returns-in_err-leaf_arg-in-PlaceholderConst-clause-table
returns-in_err-leaf_arg-in-PlaceholderConst-clause-table c = IsTable-extended c.leaf_arg-in-PlaceholderConst.ensures.extends c.requires.table

pub returns-in_ok-leaf_arg-in-PlaceholderTy-clause-table : goal.returns-in_ok-leaf_arg-in-PlaceholderTy-clause-table
returns-in_ok-leaf_arg-in-PlaceholderTy-clause-table c = IsTable-extended c.leaf_arg.ensures.extends c.requires.table

pub returns-in_ok-leaf_arg-in-PlaceholderRegion-clause-table : goal.returns-in_ok-leaf_arg-in-PlaceholderRegion-clause-table
returns-in_ok-leaf_arg-in-PlaceholderRegion-clause-table c = IsTable-extended c.leaf_arg-in-PlaceholderRegion.ensures.extends c.requires.table

pub returns-in_ok-leaf_arg-in-PlaceholderConst-clause-table : goal.returns-in_ok-leaf_arg-in-PlaceholderConst-clause-table
returns-in_ok-leaf_arg-in-PlaceholderConst-clause-table c = IsTable-extended c.leaf_arg-in-PlaceholderConst.ensures.extends c.requires.table
