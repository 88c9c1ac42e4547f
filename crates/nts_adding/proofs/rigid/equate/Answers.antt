use Rattle.std.proofs.Common.{ap, ◌∙◌, rules}
use Rattle.nts_table.specs.Tables.{Table}
use Rattle.nts_table.specs.TableLaws.{IsTable-run}
use Rattle.nts_meaning.proofs.Evaluating.{related_goes}
use Rattle.nts_adding.proofs.rigid.equate.Goals as goal

pub returns-clause-runs : goal.returns-clause-runs
returns-clause-runs c =
    let r = c.relate_nodes.ensures in
    let m = r.changes in
    let entries = ap (λ (t : Table). t.entries) c.table.view_is in
    let saved = m.saved ∙ ap (λ (t : Table). t.saved) c.table.view_is in
    let hidden = m.hidden ∙ ap (λ (t : Table). t.entries.hidden) c.table.view_is in
    record {
      goes = related_goes _ _ c.relate_nodes.result c.requires.table r.extends (IsTable-run c.requires.table r.extends r.lawful saved) saved (ap (λ (t : Table). t.mode) c.table.view_is) hidden (rw entries at r.related) (search rules) (rw entries at r.later);
      rest = search rules;
    }
