use Rattle.nts_store.specs.Growth.{Extends}
use Rattle.nts_response.proofs.Positioned.{ArePositions}
use Rattle.nts_response.proofs.unconstrained.positions.Given as goal

abbrev pub invariant-loop-i : goal.invariant-loop-i
invariant-loop-i l = record { so_far : ArePositions l.nodes l.values.items l.kinds l.i; extends : Extends l.fn.nodes l.nodes }
