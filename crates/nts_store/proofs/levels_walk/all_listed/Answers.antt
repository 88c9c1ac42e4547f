use Rattle.std.proofs.Common.{refl, arith}
use Rattle.nts_model.proofs.Terms.Scoping.{closed_listed}
use Rattle.nts_store.proofs.Levels.{levels_end}
use Rattle.nts_store.proofs.levels_walk.all_listed.Goals as goal

pub returns-then-is_closed_under : goal.returns-then-is_closed_under
returns-then-is_closed_under c = ((λ h. closed_listed _ 0 _ (c.is_closed_under.ensures c.if-is_closed_under.true)), λ h. refl)

pub returns : goal.returns
returns c = ((λ h. levels_end _ _ _ _ _ c.loop-level.invariant (omega (arith, c.loop-level-test.false, c.len-count.ensures.count))), λ h. refl)
