use Rattle.std.proofs.Common.{◌≡◌, ◌<◌, ℕ, false}
use Rattle.std.specs.Prelude.{get_or}
use Rattle.nts_model.specs.Canonical.Numbered.{same}
use Rattle.nts_canonicalizer.proofs.leaves.place_in.Given as goal

abbrev pub invariant-loop-i : goal.invariant-loop-i
invariant-loop-i l = (k : ℕ) → k < l.i → same l.leaf (get_or l.list k l.leaf) ≡ false
