use Rattle.std.proofs.Common.{◌∙◌, arith}
use Rattle.nts_store.proofs.Growing.{Extends-trans}
use Rattle.nts_terms.proofs.Moved.{KeepsRest-trans}
use Rattle.nts_table.proofs.FreshLemmas.{fresh_more}
use Rattle.nts_table.proofs.infer_ctxt.InferCtxt.add_fresh.Goals as goal

pub loop-sort-preserved : goal.loop-sort-preserved
loop-sort-preserved c =
    let e = c.in_ok-fresh_node.ensures in
    let before = c.loop-sort.invariant in
    record {
      fresh = rw c.in_ok-push.ensures.items (fresh_more c.loop-sort.cx.nodes c.fresh_node.new.cx.nodes c.loop-sort.nodes.items c.in_ok-fresh_node.field-0 c.args.self.now.entries c.loop-sort.self.entries c.fresh_node.new.self.entries c.args.sorts.now c.loop-sort.sort-index before.fresh e.grows.extends (omega (arith, c.loop-sort-test.true)) e.within e.tree e.entries);
      saved = e.changes.saved ∙ before.saved;
      mode = e.changes.mode ∙ before.mode;
      table = e.table;
      extends = Extends-trans before.extends e.grows.extends;
      rest = KeepsRest-trans before.rest e.grows.rest;
    }
