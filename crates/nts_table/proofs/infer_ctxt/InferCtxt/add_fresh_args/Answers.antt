use Rattle.std.proofs.Common.{ap, ◌∙◌, length}
use Rattle.nts_store.specs.Growth.{trees_at}
use Rattle.nts_table.specs.TableLaws.{IsTable-extended}
use Rattle.nts_table.proofs.FreshLemmas.{AllFit-fresh_row}
use Rattle.nts_table.proofs.infer_ctxt.InferCtxt.add_fresh_args.Goals as goal

pub make-requires-clause-formed : goal.make-requires-clause-formed
make-requires-clause-formed c =
    let is = ap (trees_at c.add_fresh.new.cx.nodes) c.deref.ensures.value ∙ c.in_ok-nodes.ensures.trees in
    rw is (AllFit-fresh_row (length c.args.self.now.entries.variables) c.args.sorts.now)

pub returns-clause-table : goal.returns-clause-table
returns-clause-table c = IsTable-extended c.make.ensures.extends c.add_fresh.ensures.table
