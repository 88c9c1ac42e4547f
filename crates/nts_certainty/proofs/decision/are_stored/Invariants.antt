use Rattle.std.proofs.Common.{◌≡◌, drop}
use Rattle.nts_terms.specs.Modes.{numbers_of}
use Rattle.nts_theory.specs.Erased.Accessing.{is_stored}
use Rattle.nts_certainty.specs.Deciding.{keys_of, of_keys}
use Rattle.nts_certainty.proofs.decision.are_stored.Given as goal

abbrev pub invariant-loop-i : goal.invariant-loop-i
invariant-loop-i l =
    let p = of_keys (keys_of l.parents) in
    is_stored (numbers_of l.listed) p (numbers_of (drop l.i l.ids)) ≡ is_stored (numbers_of l.listed) p (numbers_of l.ids)
