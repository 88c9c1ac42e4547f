use Rattle.std.proofs.Common.{take}
use Rattle.nts_model.specs.Answers.Responses.{positioned}
use Rattle.nts_model.specs.Derivations.Handlers.{hidden_by}
use Rattle.nts_store.specs.Growth.{Extends}
use Rattle.nts_response.specs.nts_candidates.specs.Offered.{hidden_of}
use Rattle.nts_response.specs.nts_canonical.specs.Forms.{IsHidden}
use Rattle.nts_response.specs.Replacing.{ReplacesEach}
use Rattle.nts_answering.proofs.numbered.numbered_hidden.Given as goal

abbrev pub invariant-loop-i : goal.invariant-loop-i
invariant-loop-i l = record {
  each : ReplacesEach IsHidden hidden_of (hidden_by (positioned l.leaves)) l.fn.nodes l.nodes (take l.i l.hidden) l.numbered.items;
  extends : Extends l.fn.nodes l.nodes;
}
