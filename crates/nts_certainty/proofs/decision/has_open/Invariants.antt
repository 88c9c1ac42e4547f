use Rattle.std.proofs.Common.{◌≡◌, drop}
use Rattle.nts_certainty.specs.Deciding.{has_open}
use Rattle.nts_certainty.proofs.decision.has_open.Given as goal

abbrev pub invariant-loop-i : goal.invariant-loop-i
invariant-loop-i l = has_open l.cx.nodes (drop l.i l.parents) ≡ has_open l.cx.nodes l.parents
