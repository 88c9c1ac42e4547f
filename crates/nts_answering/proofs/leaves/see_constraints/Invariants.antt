use Rattle.std.proofs.Common.{◌≡◌, map, drop}
use Rattle.nts_model.specs.Terms.Trees.{empty}
use Rattle.nts_model.specs.Canonical.Numbered.{seen}
use Rattle.nts_model.specs.Answers.Responses.{is_fixed, constraint_row}
use Rattle.nts_response.specs.Forms.{recorded_at}
use Rattle.nts_answering.proofs.leaves.see_constraints.Given as goal

abbrev pub invariant-loop-i : goal.invariant-loop-i
invariant-loop-i l =
    seen is_fixed l.leaves (constraint_row (map (recorded_at l.cx.nodes) (drop l.i l.constraints)) empty) ≡ seen is_fixed l.initial.leaves (constraint_row (map (recorded_at l.cx.nodes) l.constraints) empty)
