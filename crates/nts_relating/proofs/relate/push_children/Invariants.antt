use Rattle.std.proofs.Common.{◌≤◌}
use Rattle.nts_model.specs.Terms.Trees.{children, row_length}
use Rattle.nts_store.specs.Growth.{tree_at}
use Rattle.nts_relating.specs.Relating.{Pushed}
use Rattle.nts_relating.proofs.relate.push_children.Given as goal

abbrev pub invariant-loop-i : goal.invariant-loop-i
invariant-loop-i l = record {
  within : l.i ≤ row_length (children (tree_at l.nodes l.a));
  pushed : Pushed l.nodes l.initial.pairs.items l.pairs.items (children (tree_at l.nodes l.a)) (children (tree_at l.nodes l.b)) l.i;
}

abbrev pub decreases-loop-i : goal.decreases-loop-i
decreases-loop-i l = l.i
