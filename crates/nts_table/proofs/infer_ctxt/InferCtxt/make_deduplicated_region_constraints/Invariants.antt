use Rattle.std.proofs.Common.{◌≡◌, take, map}
use Rattle.nts_store.specs.Growth.{Extends}
use Rattle.nts_terms.specs.Rest.{KeepsRest}
use Rattle.nts_unify.specs.Reading.{content_of, recorded_of, AreConstraints}
use Rattle.nts_model.specs.Tables.Recording.{resolved_constraints, AreNews}
use Rattle.nts_table.specs.Deduplicated.{said}
use Rattle.nts_table.proofs.infer_ctxt.InferCtxt.make_deduplicated_region_constraints.Given as goal

abbrev pub invariant-loop-i : goal.invariant-loop-i
invariant-loop-i l =
    record {
      news : AreNews (take l.i (resolved_constraints (content_of l.fn.cx.nodes l.self.entries))) (map (recorded_of l.cx.nodes) l.told.items);
      seen : l.seen.keys ≡ map said l.told.items;
      sides : AreConstraints l.cx.nodes (content_of l.cx.nodes l.self.entries) l.told.items;
      extends : Extends l.fn.cx.nodes l.cx.nodes;
      rest : KeepsRest l.fn.cx l.cx;
    }
