use Rattle.std.proofs.Common.{◌≡◌, drop}
use Rattle.nts_terms.specs.Modes.{numbers_of}
use Rattle.nts_theory.specs.Erased.Accessing.{united}
use Rattle.nts_certainty.proofs.reruns.united.Given as goal

abbrev pub invariant-loop-i : goal.invariant-loop-i
invariant-loop-i l = united (numbers_of l.ids.items) (numbers_of (drop l.i l.second)) ≡ united (numbers_of l.first.items) (numbers_of l.second)
