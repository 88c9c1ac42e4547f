use Rattle.std.proofs.Common.{ℕ, ◌<◌, get_or}
use Rattle.nts_store.specs.Growth.{tree_at}
use Rattle.nts_terms.specs.declared.handles.GenericArg.{GenericArg}
use Rattle.nts_canonical.specs.declared.types.CanonicalVarKind.{CanonicalVarKind}
use Rattle.nts_canonical.specs.Forms.{kind_of_var}
use Rattle.nts_theory.specs.Telling.{IsTermOfKind}
use Rattle.nts_trying.proofs.merged.is_over_terms.Given as goal

-- the first terms stand for their positions
abbrev pub invariant-loop-i : goal.invariant-loop-i
invariant-loop-i l = (j : ℕ) (q : GenericArg) (k : CanonicalVarKind) → j < l.i → IsTermOfKind (kind_of_var (get_or l.kinds.items j k)) (tree_at l.cx.nodes (get_or l.values j q).node)
