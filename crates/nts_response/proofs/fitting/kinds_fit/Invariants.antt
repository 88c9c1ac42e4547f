use Rattle.std.proofs.Common.{take}
use Rattle.std.specs.Prelude.{All}
use Rattle.nts_canonical.specs.Forms.{kind_of_var, trees_of}
use Rattle.nts_response.specs.Applicable.{IsKindFor}
use Rattle.nts_response.proofs.fitting.kinds_fit.Given as goal

abbrev pub invariant-loop-i : goal.invariant-loop-i
invariant-loop-i l = All (λ k. IsKindFor l.max_universe (trees_of l.cx.nodes l.originals) (kind_of_var k)) (take l.i l.kinds)
