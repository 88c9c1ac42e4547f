use Rattle.std.proofs.Common.{ap, ◌∙◌}
use Rattle.nts_unify.specs.Reading.{IsLawful}
use Rattle.nts_table.specs.Tables.{Table}
use Rattle.nts_table.specs.TableLaws.{IsTable-run}
use Rattle.nts_table.proofs.infer_ctxt.InferCtxt.add_variable.Goals as goal

pub returns-clause-table : goal.returns-clause-table
returns-clause-table c =
    let e = c.in_ok-node.ensures in
    let before : IsLawful c.args.cx.now.nodes c.self.inside.inner.entries = rw (ap (λ (t : Table). t.entries) c.self.view_is) c.requires.table.now in
    IsTable-run c.requires.table e.extends (e.lawful before) (e.changes.saved ∙ ap (λ (t : Table). t.saved) c.self.view_is)

pub returns-in_err-node-clause-table : goal.returns-in_err-node-clause-table
returns-in_err-node-clause-table c =
    let e = c.in_err-node.ensures in
    let before : IsLawful c.args.cx.now.nodes c.self.inside.inner.entries = rw (ap (λ (t : Table). t.entries) c.self.view_is) c.requires.table.now in
    IsTable-run c.requires.table e.extends (e.lawful before) (e.changes.saved ∙ ap (λ (t : Table). t.saved) c.self.view_is)
