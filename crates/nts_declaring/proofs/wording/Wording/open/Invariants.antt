use Rattle.std.proofs.Common.{◌≤◌}
use Rattle.nts_declaring.proofs.wording.Wording.open.Given as goal

abbrev pub invariant-loop-i : goal.invariant-loop-i
invariant-loop-i l = l.i ≤ l.count

abbrev pub decreases-loop-i : goal.decreases-loop-i
decreases-loop-i l = l.i
