use Rattle.std.proofs.Common.{ℕ, ◌<◌, get_or}
use Rattle.nts_response.specs.nts_canonical.specs.declared.types.Canonical.{Canonical}
use Rattle.nts_response.specs.declared.types.Response.{Response}
use Rattle.nts_response.specs.Same.{AreOneResponse}
use Rattle.nts_search.proofs.merging.are_all_one.Given as goal

abbrev pub invariant-loop-i : goal.invariant-loop-i
invariant-loop-i l = (j : ℕ) (d : Canonical Response) → j < l.i → AreOneResponse l.cx.nodes (get_or l.candidates 0 d) (get_or l.candidates j d)
