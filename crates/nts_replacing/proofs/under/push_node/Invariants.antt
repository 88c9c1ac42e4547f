use Rattle.nts_store.specs.Growth.{tree_at}
use Rattle.nts_replacing.proofs.Walking.{PushedFrom}
use Rattle.nts_replacing.proofs.under.push_node.Given as goal

abbrev pub decreases-loop-i : goal.decreases-loop-i
decreases-loop-i l = l.i

abbrev pub invariant-loop-i : goal.invariant-loop-i
invariant-loop-i l =
    PushedFrom l.nodes l.depth l.initial.tasks.items l.tasks.items (tree_at l.nodes l.place.node) l.i
