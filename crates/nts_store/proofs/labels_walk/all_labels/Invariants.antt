use Rattle.nts_model.specs.Terms.Trees.{children}
use Rattle.nts_store.specs.Growth.{tree_at}
use Rattle.nts_store.specs.Levels.{above}
use Rattle.nts_store.proofs.Pending.{IsLeft, IsAdded}
use Rattle.nts_store.proofs.labels_walk.all_labels.Given as goal

abbrev pub invariant-loop-i : goal.invariant-loop-i
invariant-loop-i g l =
    IsAdded (g.T.LabelTest.passes l.test) l.nodes l.initial.pending.keys (children (tree_at l.nodes l.term)) l.term.number l.i l.pending.keys

abbrev pub invariant-loop-number : goal.invariant-loop-number
invariant-loop-number g l =
    IsLeft (g.T.LabelTest.passes l.test) l.nodes (tree_at l.nodes l.fn.t) l.pending.keys

abbrev pub decreases-loop-number : goal.decreases-loop-number
decreases-loop-number g l = above l.pending.keys
