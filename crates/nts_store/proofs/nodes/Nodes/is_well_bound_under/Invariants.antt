use Rattle.nts_store.proofs.WellBound.{AreWellBoundFrom}
use Rattle.nts_store.proofs.nodes.Nodes.is_well_bound_under.Given as goal

abbrev pub invariant-loop-i : goal.invariant-loop-i
invariant-loop-i l = AreWellBoundFrom l.self l.fn.label l.children l.i

abbrev pub decreases-loop-i : goal.decreases-loop-i
decreases-loop-i l = l.i
