use Rattle.std.proofs.Common.{arith}
use Rattle.nts_placeholder.proofs.Finding.{levels_end}
use Rattle.nts_placeholder.proofs.escaping.escaping_variables.Goals as goal

pub returns : goal.returns
returns c = record { found = levels_end _ _ _ _ _ c.loop-level.invariant (omega (arith, c.loop-level-test.false, c.len-count.ensures.count)) }
