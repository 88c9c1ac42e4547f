use Rattle.std.proofs.Common.{ℕ, ◌<◌, get_or}
use Rattle.nts_response.specs.nts_canonical.specs.declared.types.Canonical.{Canonical}
use Rattle.nts_response.specs.declared.types.Response.{Response}
use Rattle.nts_search.specs.Merging.{AppliesAlways}
use Rattle.nts_search.proofs.merging.first_that_applies_always.Given as goal

abbrev pub invariant-loop-i : goal.invariant-loop-i
invariant-loop-i l = (j : ℕ) (d : Canonical Response) → j < l.i → AppliesAlways l.cx.nodes (get_or l.candidates j d) → ⊥
