use Rattle.std.proofs.Common.{subst, sym}
use Rattle.std.specs.Prelude.{IsTrue, All}
use Rattle.nts_response.specs.OverSorts.{IsHiddenIn}
use Rattle.nts_response.proofs.fitting.value_fits.Goals as goal

pub returns-then-not-branch-3 : goal.returns-then-not-branch-3
returns-then-not-branch-3 c = (
  (λ h. cc),
  λ h. let yes : IsTrue c.in_ok-all_fit-3.field-0 = c.in_ok-all_fit-3.ensures.1 (subst (All (IsHiddenIn c.args.cx.now.nodes c.args.sorts.now)) (sym c.deref-3.ensures.value) h.hidden) in
      cc,
)
