use Rattle.std.proofs.Common.{◌≡◌, take}
use Rattle.nts_store.specs.Growth.{Extends}
use Rattle.nts_terms.specs.Rest.{KeepsRest}
use Rattle.nts_table.specs.Tables.{IsTable}
use Rattle.nts_table.proofs.FreshLemmas.{FreshSoFar}
use Rattle.nts_table.proofs.infer_ctxt.InferCtxt.add_fresh.Given as goal

abbrev pub invariant-loop-sort : goal.invariant-loop-sort
invariant-loop-sort l =
    record {
      fresh : FreshSoFar l.cx.nodes l.nodes.items l.fn.self.entries l.self.entries (take l.sort-index l.sorts);
      saved : l.self.saved ≡ l.fn.self.saved;
      mode : l.self.mode ≡ l.fn.self.mode;
      table : IsTable l.cx.nodes l.self;
      extends : Extends l.fn.cx.nodes l.cx.nodes;
      rest : KeepsRest l.fn.cx l.cx;
    }
