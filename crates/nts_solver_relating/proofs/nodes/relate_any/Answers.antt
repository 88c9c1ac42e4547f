use Rattle.std.proofs.Common.{ap, ◌∙◌, rules}
use Rattle.nts_store.specs.Growth.{tree_at}
use Rattle.nts_terms.specs.Signatures.{variances_in}
use Rattle.nts_table.specs.Tables.{Table}
use Rattle.nts_table.specs.TableLaws.{IsTable-run}
use Rattle.nts_solver_relating.proofs.GoalsLeft.{if_ok, other_sides}
use Rattle.nts_solver_relating.proofs.nodes.relate_any.Goals as goal

pub returns : goal.returns
returns c =
    let k = c.relate_or_leave.ensures in
    let saved = k.changes.saved ∙ ap (λ (t : Table). t.saved) c.table.view_is in
    let same = ap (λ (t : Table). t.entries) c.table.view_is in
    record {
      extends = k.extends;
      table = IsTable-run c.requires.table k.extends k.lawful saved;
      changes = search rules;
      related = if_ok c.relate_or_leave.result _ _
          (λ gs r. other_sides (variances_in c.args.declarations.now) c.args.nodes.now c.relate_or_leave.new.nodes c.args.table.now.entries c.relate_or_leave.new.table.entries c.args.env c.args.variance (tree_at c.args.nodes.now c.args.left) (tree_at c.args.nodes.now c.args.right) gs.items (c.is_type.ensures.no c.if-is_type.false) r)
          (rw same at k.related);
      err = search rules;
      full = k.full;
      no = rw same at k.no;
    }
