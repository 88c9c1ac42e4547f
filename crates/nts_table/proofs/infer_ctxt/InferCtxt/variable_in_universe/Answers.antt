use Rattle.std.proofs.Common.{ap, ◌∙◌}
use Rattle.nts_unify.specs.Entries.{added}
use Rattle.nts_table.specs.Making.{unset_variable}
use Rattle.nts_table.specs.Tables.{Table}
use Rattle.nts_table.proofs.infer_ctxt.InferCtxt.variable_in_universe.Goals.{in-Some, in-None}
use Rattle.nts_table.proofs.infer_ctxt.InferCtxt.variable_in_universe.Goals as goal

pub returns-clause-entries : goal.returns-clause-entries
returns-clause-entries c =
    let e = c.args.self.now.entries in
    let same = ap (λ (t : Table). t.entries) c.self.view_is in
    let f = c.in_ok-node.ensures.entries in
    elim c.match-sub_root_of.branch [
      | in-Some w ↦ rw w.in-Some.is (w.sub_root.result, rw (← same) w.sub_root.ensures, f ∙ ap (λ l. added e (record (unset_variable c.args.kind c.args.universe) { sub_link = l })) w.sub_link-is)
      | in-None w ↦ rw w.in-None.is (f ∙ ap (λ l. added e (record (unset_variable c.args.kind c.args.universe) { sub_link = l })) w.sub_link-is)
    ]
