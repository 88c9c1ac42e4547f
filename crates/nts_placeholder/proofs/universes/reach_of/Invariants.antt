use Rattle.std.proofs.Common.{take}
use Rattle.nts_placeholder.specs.Escaping.{is_among}
use Rattle.nts_placeholder.specs.Universes.{IsReach}
use Rattle.nts_placeholder.proofs.universes.reach_of.Given as goal

abbrev pub invariant-loop-i : goal.invariant-loop-i
invariant-loop-i l = IsReach l.universes (is_among (take l.i l.found)) l.end
