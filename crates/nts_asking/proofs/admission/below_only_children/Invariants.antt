use Rattle.std.proofs.Common.{◌≡◌}
use Rattle.nts_model.specs.Terms.Trees.{any_label}
use Rattle.nts_store.specs.Growth.{tree_at, IsIn}
use Rattle.nts_meaning.specs.Evaluation.{is_internal}
use Rattle.nts_asking.proofs.admission.below_only_children.Given as goal

abbrev pub invariant-down : goal.invariant-down
invariant-down l = record {
  within : IsIn l.cx.nodes l.term;
  same : any_label is_internal (tree_at l.cx.nodes l.fn.t) ≡ any_label is_internal (tree_at l.cx.nodes l.term);
}

abbrev pub decreases-down : goal.decreases-down
decreases-down l = l.term.number
