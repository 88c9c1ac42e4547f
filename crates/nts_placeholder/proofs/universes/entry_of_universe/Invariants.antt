use Rattle.std.proofs.Common.{◌≡◌, ◌-◌, length, drop}
use Rattle.nts_placeholder.specs.Closing.{entry_of}
use Rattle.nts_placeholder.proofs.Reaching.{shift}
use Rattle.nts_placeholder.proofs.universes.entry_of_universe.Given as goal

abbrev pub invariant-loop-i : goal.invariant-loop-i
invariant-loop-i l = entry_of l.universes l.universe ≡ shift l.i (entry_of (drop l.i l.universes) l.universe)

abbrev pub decreases-loop-i : goal.decreases-loop-i
decreases-loop-i l = length l.universes - l.i
