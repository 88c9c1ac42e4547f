-- Rows of arguments whose pairs are related, each invariantly.
use Rattle.std.proofs.Common.{◌≡◌, ℕ, List, [], sym, arith, subst}
use Rattle.nts_model.specs.declared.labels.Variance.{Variance}
use Rattle.nts_model.specs.declared.labels.Variance.TheVariants as variance
use Rattle.nts_model.specs.Terms.Trees.{Tree, empty, more, node, row_length, IsRow}
use Rattle.nts_model.specs.Tables.Contents.{Content}
use Rattle.nts_model.specs.Derivations.Related.{times, no_more, and_more}
use Rattle.nts_variance_model.specs.Variances.Forms.{pairs_over}
use Rattle.nts_variance_model.specs.Variances.AnsweredGoals.{AllRelatedUnder, RelatedUnder, RowsUnder}
use Rattle.nts_model.proofs.Tables.Resolved.{deeply_resolved-empty}
use Rattle.nts_model.proofs.Tables.TableInstances.{deeply_resolved-more}
use Rattle.nts_variance_model.proofs.Variances.Alongside.{times_invariant as invariant_below}

-- so they are related whatever the variance of the two is
pub rows_under : (declared : ℕ → List Variance) (c : Content) (ks : List Tree) (v : Variance) (ts us : Tree) → IsRow ts → IsRow us → row_length ts ≡ row_length us
    → AllRelatedUnder declared c ks (pairs_over variance.Invariant [] ts us) → RowsUnder declared c ks v [] ts us
rows_under declared c ks v empty empty i j e h = rw (deeply_resolved-empty c) no_more
rows_under declared c ks v empty (more b us) i j e h = absurd (omega (arith, e))
rows_under declared c ks v empty (node l x) i j e h = absurd j
rows_under declared c ks v (more a ts) empty i j e h = absurd (omega (arith, e))
rows_under declared c ks v (more a ts) (node l x) i j e h = absurd j
rows_under declared c ks v (more a ts) (more b us) i j e h =
    let rest : row_length ts ≡ row_length us = omega (arith, e) in
    let first : RelatedUnder declared c ks (times v variance.Invariant) a b = subst (λ w. RelatedUnder declared c ks w a b) (sym (invariant_below v)) h.0 in
    rw (deeply_resolved-more c a ts, deeply_resolved-more c b us) (and_more first (rows_under declared c ks v ts us i j rest h.1))
rows_under declared c ks v (node l x) us i j e h = absurd i
