use Rattle.std.proofs.Common.{◌≡◌, ℕ, ◌<◌, get_or, false, None}
use Rattle.nts_model.specs.Canonical.Inputs.{are_one}
use Rattle.nts_canonical.proofs.var_kinds.first_of.Given as goal

abbrev pub invariant-loop-i : goal.invariant-loop-i
invariant-loop-i l = (k : ℕ) → k < l.i → are_one l.root (get_or l.roots k None) ≡ false
