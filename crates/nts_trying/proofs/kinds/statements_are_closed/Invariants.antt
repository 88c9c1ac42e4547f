use Rattle.nts_model.specs.Terms.Trees.{children}
use Rattle.nts_store.specs.Growth.{tree_at}
use Rattle.nts_meaning.proofs.TraitsAsked.{AreClosedBelow}
use Rattle.nts_trying.proofs.kinds.statements_are_closed.Given as goal

abbrev pub invariant-loop-i : goal.invariant-loop-i
invariant-loop-i l = AreClosedBelow l.i (children (tree_at l.cx.nodes l.env.node))
