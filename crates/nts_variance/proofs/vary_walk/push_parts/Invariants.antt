use Rattle.std.specs.Prelude.{◌≡◌, ◌≤◌}
use Rattle.nts_model.specs.Terms.Trees.{row_length}
use Rattle.nts_model.specs.Tables.Contents.{Content}
use Rattle.nts_model.specs.Tables.Resolving.{Knows}
use Rattle.nts_variance_model.specs.Variances.Forms.{variances_over}
use Rattle.nts_store.specs.Growth.{tree_at}
use Rattle.nts_terms.specs.Signatures.{variances_in}
use Rattle.nts_unify.specs.Knowing.{row_from}
use Rattle.nts_variance.specs.Steps.{entering, stacked}
use Rattle.nts_variance.specs.Parts.{form_of_tree, parts_of, variances_from}
use Rattle.nts_variance.specs.Terms.{step_at, AreTasks}
use Rattle.nts_variance.proofs.vary_walk.push_parts.Given as goal

abbrev pub invariant-loop-i : goal.invariant-loop-i
invariant-loop-i l = record {
  within : l.i ≤ row_length (parts_of (tree_at l.nodes l.spot.term));
  steps : stacked (step_at l.nodes) l.tasks.items ≡ entering l.spot.variance (variances_from l.i (variances_over (variances_in l.declarations) (form_of_tree (tree_at l.nodes l.spot.term)) (parts_of (tree_at l.nodes l.spot.term)))) l.spot.is_quiet (row_from l.i (parts_of (tree_at l.nodes l.spot.term))) (stacked (step_at l.nodes) l.initial.tasks.items);
  tasks : (c : Content) → Knows c (tree_at l.nodes l.spot.term) → AreTasks l.nodes c l.initial.tasks.items → AreTasks l.nodes c l.tasks.items;
}

abbrev pub decreases-loop-i : goal.decreases-loop-i
decreases-loop-i l = l.i
