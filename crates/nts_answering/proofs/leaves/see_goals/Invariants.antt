use Rattle.std.proofs.Common.{◌≡◌, map, drop}
use Rattle.nts_model.specs.Terms.Trees.{empty}
use Rattle.nts_model.specs.Canonical.Numbered.{seen}
use Rattle.nts_model.specs.Answers.Responses.{is_fixed, goal_row}
use Rattle.nts_response.specs.Forms.{premise_at}
use Rattle.nts_answering.proofs.leaves.see_goals.Given as goal

abbrev pub invariant-loop-i : goal.invariant-loop-i
invariant-loop-i l =
    seen is_fixed l.leaves (goal_row (map (premise_at l.cx.nodes) (drop l.i l.goals)) empty) ≡ seen is_fixed l.initial.leaves (goal_row (map (premise_at l.cx.nodes) l.goals) empty)
