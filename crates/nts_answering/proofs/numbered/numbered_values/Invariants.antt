use Rattle.std.proofs.Common.{take}
use Rattle.nts_model.specs.Answers.Responses.{positioned}
use Rattle.nts_store.specs.Growth.{Extends}
use Rattle.nts_terms.specs.Handles.{HoldsArg}
use Rattle.nts_response.specs.Replacing.{ReplacesEach, argument_value}
use Rattle.nts_answering.proofs.numbered.numbered_values.Given as goal

abbrev pub invariant-loop-i : goal.invariant-loop-i
invariant-loop-i l = record {
  each : ReplacesEach HoldsArg argument_value (positioned l.leaves) l.fn.nodes l.nodes (take l.i l.values) l.numbered.items;
  extends : Extends l.fn.nodes l.nodes;
}
