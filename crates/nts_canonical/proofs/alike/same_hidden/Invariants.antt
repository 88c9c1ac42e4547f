use Rattle.nts_canonical.specs.Forms.{hidden_pairs}
use Rattle.nts_canonical.proofs.Telling.{Agree}
use Rattle.nts_canonical.proofs.alike.same_hidden.Given as goal

abbrev pub invariant-loop-i : goal.invariant-loop-i
invariant-loop-i l = Agree (hidden_pairs l.nodes) l.a l.b l.i
