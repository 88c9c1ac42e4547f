use Rattle.std.proofs.Common.{◌≡◌, drop}
use Rattle.nts_terms.specs.Modes.{numbers_of}
use Rattle.nts_theory.specs.Erased.Accessing.{is_in}
use Rattle.nts_certainty.proofs.reruns.is_listed.Given as goal

abbrev pub invariant-loop-i : goal.invariant-loop-i
invariant-loop-i l = is_in (numbers_of (drop l.i l.ids)) l.id.number ≡ is_in (numbers_of l.ids) l.id.number
