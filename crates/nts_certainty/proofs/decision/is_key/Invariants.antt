use Rattle.std.proofs.Common.{◌≡◌, drop}
use Rattle.nts_theory.specs.Erased.Accessing.{is_in}
use Rattle.nts_certainty.specs.Deciding.{keys_of}
use Rattle.nts_certainty.proofs.decision.is_key.Given as goal

abbrev pub invariant-loop-i : goal.invariant-loop-i
invariant-loop-i l = is_in (keys_of (drop l.i l.parents)) l.id.number ≡ is_in (keys_of l.parents) l.id.number
