use Rattle.std.proofs.Common.{◌≡◌, ◌≤◌, ◌++◌}
use Rattle.nts_model.specs.Terms.Trees.{children, row_length}
use Rattle.nts_store.specs.Growth.{tree_at}
use Rattle.nts_unify.specs.Knowing.{row_from}
use Rattle.nts_canonicalizer.specs.Collecting.{TasksIn, jobs, entered}
use Rattle.nts_canonicalizer.proofs.collecting.push_children.Given as goal

abbrev pub decreases-loop-i : goal.decreases-loop-i
decreases-loop-i l = l.i

abbrev pub invariant-loop-i : goal.invariant-loop-i
invariant-loop-i l = record {
  fits : l.i ≤ row_length (children (tree_at l.nodes l.term));
  within : TasksIn l.nodes l.tasks.items;
  are : jobs l.nodes l.tasks.items ≡ jobs l.nodes l.fn.tasks.items ++ entered (row_from l.i (children (tree_at l.nodes l.term)));
}
