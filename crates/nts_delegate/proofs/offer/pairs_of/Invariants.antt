use Rattle.nts_model.specs.Terms.Trees.{children, row_take}
use Rattle.nts_store.specs.Growth.{tree_at}
use Rattle.nts_delegate.specs.Offers.{AreArgumentPairs}
use Rattle.nts_delegate.proofs.offer.pairs_of.Given as goal

abbrev pub invariant-loop-i : goal.invariant-loop-i
invariant-loop-i l =
    AreArgumentPairs l.cx.nodes (row_take l.i (children (tree_at l.cx.nodes l.args.node))) (row_take l.i (children (tree_at l.cx.nodes l.head.node))) l.equations.items
