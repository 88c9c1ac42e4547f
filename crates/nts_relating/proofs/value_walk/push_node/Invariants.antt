use Rattle.std.proofs.Common.{◌≤◌}
use Rattle.nts_model.specs.Terms.Trees.{children, row_length}
use Rattle.nts_store.specs.Growth.{tree_at}
use Rattle.nts_relating.specs.Parts.{IsEntered, inner}
use Rattle.nts_relating.proofs.value_walk.push_node.Given as goal

abbrev pub invariant-loop-i : goal.invariant-loop-i
invariant-loop-i l = record {
  within : l.i ≤ row_length (children (tree_at l.nodes l.part.term));
  entered : IsEntered l.nodes (children (tree_at l.nodes l.part.term)) (inner l.part.binders (tree_at l.nodes l.part.term)) l.part.term.number l.i l.initial.tasks.items l.tasks.items;
}

abbrev pub decreases-loop-i : goal.decreases-loop-i
decreases-loop-i l = l.i
