use Rattle.std.proofs.Common.{take}
use Rattle.nts_model.specs.Answers.Responses.{positioned}
use Rattle.nts_model.specs.Derivations.Handlers.{premise_by}
use Rattle.nts_store.specs.Growth.{Extends}
use Rattle.nts_response.specs.Forms.{HoldsOpen, premise_at}
use Rattle.nts_response.specs.Replacing.{ReplacesEach}
use Rattle.nts_answering.proofs.numbered.numbered_goals.Given as goal

abbrev pub invariant-loop-i : goal.invariant-loop-i
invariant-loop-i l = record {
  each : ReplacesEach HoldsOpen premise_at (premise_by (positioned l.leaves)) l.fn.nodes l.nodes (take l.i l.goals) l.numbered.items;
  extends : Extends l.fn.nodes l.nodes;
}
