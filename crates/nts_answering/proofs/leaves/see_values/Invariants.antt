use Rattle.std.proofs.Common.{◌≡◌, map, drop}
use Rattle.nts_model.specs.Terms.Trees.{empty}
use Rattle.nts_model.specs.Canonical.Numbered.{seen}
use Rattle.nts_model.specs.Answers.Responses.{is_fixed, value_row}
use Rattle.nts_store.specs.Growth.{tree_at}
use Rattle.nts_terms.specs.declared.handles.GenericArg.{GenericArg}
use Rattle.nts_answering.proofs.leaves.see_values.Given as goal

abbrev pub invariant-loop-i : goal.invariant-loop-i
invariant-loop-i l =
    seen is_fixed l.leaves (value_row (map (λ (x : GenericArg). tree_at l.cx.nodes x.node) (drop l.i l.values)) empty) ≡ seen is_fixed l.initial.leaves (value_row (map (λ (x : GenericArg). tree_at l.cx.nodes x.node) l.values) empty)
