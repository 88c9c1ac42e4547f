use Rattle.nts_placeholder.proofs.Reaching.{AreSoFar}
use Rattle.nts_placeholder.proofs.universes.fill.Given as goal

abbrev pub invariant-loop-i : goal.invariant-loop-i
invariant-loop-i l = AreSoFar l.universes l.universe l.end l.i l.list.items l.last
