use Rattle.nts_model.specs.Terms.Trees.{children}
use Rattle.nts_store.specs.Growth.{tree_at}
use Rattle.nts_store.specs.Levels.{above}
use Rattle.nts_store.proofs.Levels.{AreLeft, binders_of, AreAdded}
use Rattle.nts_store.proofs.levels_walk.next_level.Given as goal

abbrev pub invariant-loop-i : goal.invariant-loop-i
invariant-loop-i l =
    AreAdded (children (tree_at l.nodes l.sorts)) l.level (binders_of l.binds) l.nodes l.fn.here.keys l.initial.here.keys l.initial.deeper.keys (children (tree_at l.nodes l.term)) l.term.number l.i l.here.keys l.deeper.keys

abbrev pub invariant-loop-number : goal.invariant-loop-number
invariant-loop-number l =
    AreLeft (children (tree_at l.nodes l.sorts)) l.level l.nodes l.fn.here.keys l.here.keys l.deeper.keys

abbrev pub decreases-loop-number : goal.decreases-loop-number
decreases-loop-number l = above l.here.keys
