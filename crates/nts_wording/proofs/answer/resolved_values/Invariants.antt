use Rattle.std.proofs.Common.{take}
use Rattle.nts_store.specs.Growth.{Extends}
use Rattle.nts_terms.specs.Rest.{KeepsRest}
use Rattle.nts_unify.specs.Reading.{content_of}
use Rattle.nts_wording.specs.Found.{AreResolved}
use Rattle.nts_wording.proofs.answer.resolved_values.Given as goal

abbrev pub invariant-loop-value : goal.invariant-loop-value
invariant-loop-value l = record {
  extends : Extends l.fn.cx.nodes l.cx.nodes;
  rest : KeepsRest l.fn.cx l.cx;
  resolved : AreResolved l.fn.cx.nodes l.cx.nodes (content_of l.fn.cx.nodes l.table.entries) (take l.value-index l.values) l.found.items;
}
