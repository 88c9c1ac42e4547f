use Rattle.std.proofs.Common.{ℕ, ◌<◌, get_or}
use Rattle.nts_model.specs.declared.labels.Sort.TheVariants as sort
use Rattle.nts_model.specs.declared.labels.Variance.TheVariants as variance
use Rattle.nts_terms.specs.Signatures.{IsVarianceOf}
use Rattle.nts_terms.proofs.declarations.are_variances.Given as goal

abbrev pub invariant-loop-i : goal.invariant-loop-i
invariant-loop-i l = (k : ℕ) → k < l.i → IsVarianceOf (get_or l.sorts k sort.Ty) (get_or l.variances k variance.Covariant)
