use Rattle.std.proofs.Common.{◌≡◌, map, drop}
use Rattle.nts_model.specs.Terms.Trees.{empty}
use Rattle.nts_model.specs.Canonical.Numbered.{seen}
use Rattle.nts_model.specs.Answers.Responses.{is_fixed, hidden_row}
use Rattle.nts_response.specs.nts_candidates.specs.Offered.{hidden_of}
use Rattle.nts_answering.proofs.leaves.see_hidden.Given as goal

abbrev pub invariant-loop-i : goal.invariant-loop-i
invariant-loop-i l =
    seen is_fixed l.leaves (hidden_row (map (hidden_of l.cx.nodes) (drop l.i l.hidden)) empty) ≡ seen is_fixed l.initial.leaves (hidden_row (map (hidden_of l.cx.nodes) l.hidden) empty)
