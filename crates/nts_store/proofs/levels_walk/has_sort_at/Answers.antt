use Rattle.std.proofs.Common.{◌≡◌, false, Some, None, ap, sym, ◌∙◌, arith}
use Rattle.std.specs.Prelude.{IsTrue}
use Rattle.nts_model.specs.declared.labels.Label.{Label}
use Rattle.nts_model.specs.Terms.Trees.{children, label_of}
use Rattle.nts_store.specs.Growth.{tree_at}
use Rattle.nts_store.proofs.Levels.{row_past}
use Rattle.nts_store.proofs.levels_walk.has_sort_at.Goals as goal

no_truth : IsTrue false → ⊥
no_truth h = cc h

none_some : (l : Label) → None ≡ Some l → ⊥
none_some l e = cc e

pub returns-else-n-child_count : goal.returns-else-n-child_count
returns-else-n-child_count c =
    let past = row_past (children (tree_at c.args.nodes.now c.args.sorts)) c.args.n (omega (arith, c.if-n-child_count.false, c.child_count.ensures.count)) in (
      (λ h. absurd (no_truth h)),
      λ h. absurd (none_some _ (sym (ap label_of past) ∙ h)),
    )
