use Rattle.std.proofs.Common.{ℕ, ◌<◌, get_or}
use Rattle.nts_model.specs.Terms.Trees.{empty}
use Rattle.nts_canonical.specs.Forms.{trees_of}
use Rattle.nts_response.specs.Applied.{IsPosition}
use Rattle.nts_response.proofs.telling.is_identity.Given as goal

abbrev pub invariant-loop-i : goal.invariant-loop-i
invariant-loop-i l = (j : ℕ) → j < l.i → IsPosition (get_or (trees_of l.cx.nodes l.values) j empty) j
