use Rattle.nts_response.specs.Same.{AreOneBelow}
use Rattle.nts_response.proofs.same.all_same.Given as goal

abbrev pub invariant-loop-i : goal.invariant-loop-i
invariant-loop-i g l = AreOneBelow (g.E.Told.are_one l.nodes) l.a l.b l.i
