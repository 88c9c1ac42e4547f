use Rattle.nts_table.specs.TableLaws.{IsTable-extended}
use Rattle.nts_fault_rows.proofs.rows.open_in.Goals as goal

pub returns : goal.returns
returns c =
    let e = c.replace_bound_vars.ensures in
    IsTable-extended e.grows.extends (e.table _ c.requires)
