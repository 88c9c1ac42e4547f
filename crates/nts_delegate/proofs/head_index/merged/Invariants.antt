use Rattle.std.proofs.Common.{length, drop, ℕ, ◌-◌, ◌+◌, ◌≤◌, List}
use Rattle.nts_delegate.specs.Places.{AreMerged}
use Rattle.nts_delegate.proofs.Merging.{IsMergedTo}
use Rattle.nts_delegate.proofs.head_index.merged.Given as goal

abbrev pub invariant-loop-i : goal.invariant-loop-i
invariant-loop-i l = record {
  built_within : l.i ≤ length l.built;
  blanket_within : l.j ≤ length l.blanket;
  merged : (zs : List ℕ) → AreMerged l.built l.blanket zs → IsMergedTo (drop l.i l.built) (drop l.j l.blanket) l.places.items zs;
}

abbrev pub decreases-loop-i : goal.decreases-loop-i
decreases-loop-i l = (length l.built - l.i) + (length l.blanket - l.j)
