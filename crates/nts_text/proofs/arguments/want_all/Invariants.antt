use Rattle.std.proofs.Common.{◌≡◌, ◌≤◌, ◌++◌, length, drop, reverse}
use Rattle.nts_text.proofs.arguments.want_all.Given as goal

abbrev pub invariant-loop-at : goal.invariant-loop-at
invariant-loop-at l = record {
  placed : l.at ≤ length l.sorts;
  pushed : l.wanted.items ≡ l.initial.wanted.items ++ reverse (drop l.at l.sorts);
}

abbrev pub decreases-loop-at : goal.decreases-loop-at
decreases-loop-at l = l.at
