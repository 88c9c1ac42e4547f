use Rattle.std.proofs.Common.{ap, ◌∙◌}
use Rattle.nts_table.specs.Tables.{Table}
use Rattle.nts_table.specs.TableLaws.{IsTable-run}
use Rattle.nts_equating.proofs.nodes.relate_nodes.Goals as goal

pub returns-clause-table : goal.returns-clause-table
returns-clause-table c =
    let saved = c.relate_nodes.ensures.changes.saved ∙ ap (λ (t : Table). t.saved) c.table.view_is in
    IsTable-run c.requires.table c.relate_nodes.ensures.extends c.relate_nodes.ensures.lawful saved
