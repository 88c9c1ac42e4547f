use Rattle.std.proofs.Common.{take}
use Rattle.nts_model.specs.Answers.Responses.{positioned, recorded_by}
use Rattle.nts_store.specs.Growth.{Extends}
use Rattle.nts_response.specs.Forms.{StoreHoldsConstraint, recorded_at}
use Rattle.nts_response.specs.Replacing.{ReplacesEach}
use Rattle.nts_answering.proofs.numbered.numbered_constraints.Given as goal

abbrev pub invariant-loop-i : goal.invariant-loop-i
invariant-loop-i l = record {
  each : ReplacesEach StoreHoldsConstraint recorded_at (recorded_by (positioned l.leaves)) l.fn.nodes l.nodes (take l.i l.constraints) l.numbered.items;
  extends : Extends l.fn.nodes l.nodes;
}
