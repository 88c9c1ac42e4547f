use Rattle.std.proofs.Common.{ℕ, ◌<◌, get_or}
use Rattle.nts_asking.specs.Stalled.{IsOwnSubRoot}
use Rattle.nts_asking.proofs.stalled.are_roots.Given as goal

abbrev pub invariant-loop-i : goal.invariant-loop-i
invariant-loop-i l = (k : ℕ) (d : ℕ) → k < l.i → IsOwnSubRoot l.table.entries (get_or l.roots k d)
