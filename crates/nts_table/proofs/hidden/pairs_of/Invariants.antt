use Rattle.std.proofs.Common.{◌≡◌, take, map}
use Rattle.nts_table.specs.Registering.{pair_of}
use Rattle.nts_table.proofs.hidden.pairs_of.Given as goal

abbrev pub invariant-loop-i : goal.invariant-loop-i
invariant-loop-i l = record {
  pairs : l.pairs.items ≡ map pair_of (take l.i l.hidden);
}
