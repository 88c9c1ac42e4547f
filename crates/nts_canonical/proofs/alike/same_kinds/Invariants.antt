use Rattle.std.proofs.Common.{map}
use Rattle.nts_canonical.specs.Forms.{kind_of_var}
use Rattle.nts_canonical.proofs.Telling.{Agree}
use Rattle.nts_canonical.proofs.alike.same_kinds.Given as goal

abbrev pub invariant-loop-i : goal.invariant-loop-i
invariant-loop-i l = Agree (map kind_of_var) l.a l.b l.i
