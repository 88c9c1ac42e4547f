use Rattle.std.proofs.Common.{◌≡◌, map, drop, ◌≤◌, length}
use Rattle.nts_search.specs.Merging.{doubt_of}
use Rattle.nts_search.proofs.floundering.join_doubts.Given as goal

abbrev pub decreases-loop-at : goal.decreases-loop-at
decreases-loop-at l = l.at

abbrev pub invariant-loop-at : goal.invariant-loop-at
invariant-loop-at l = record {
  below : l.at ≤ length l.candidates;
  doubt : l.doubt ≡ doubt_of (map (λ c. c.value.certainty) (drop l.at l.candidates));
}
