use Rattle.std.proofs.Common.{◌≡◌, take}
use Rattle.nts_canonicalizer.proofs.leaves.with_one_more.Given as goal

abbrev pub invariant-loop-it : goal.invariant-loop-it
invariant-loop-it l = l.set.keys ≡ take l.it-index l.list
