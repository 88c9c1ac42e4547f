use Rattle.std.specs.Prelude.{reverse}
use Rattle.nts_search.proofs.LookedUp.{Ahead, left_of}
use Rattle.nts_search.proofs.stack.SearchGraph.find.Given as goal

abbrev pub invariant-loop-at : goal.invariant-loop-at
invariant-loop-at l = Ahead l.cx.nodes (reverse l.self.stack.items) l.input l.at

abbrev pub decreases-loop-at : goal.decreases-loop-at
decreases-loop-at l = left_of l.at
