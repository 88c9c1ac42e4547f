use Rattle.nts_store.proofs.Growing.{Extends-trans}
use Rattle.nts_table.specs.TableLaws.{IsTable-extended}
use Rattle.nts_meaning.proofs.Evaluating.{Goes-extends, IsPosed-later, IsPosed-admitted}
use Rattle.nts_context_uses.proofs.Asked.{plain_kept}
use Rattle.nts_context_uses.proofs.rule.try_rule.Goals as goal

pub is_plain-requires : goal.is_plain-requires
is_plain-requires c = record { table = IsTable-extended c.in_ok-goal_is_admitted.ensures.grows.extends c.requires.table }

pub is_plain-requires-else-not-branch-2 : goal.is_plain-requires-else-not-branch-2
is_plain-requires-else-not-branch-2 c = record { table = IsTable-extended (Extends-trans c.in_ok-goal_is_admitted.ensures.grows.extends c.in_ok-is_plain.ensures.grows.extends) c.requires.table }

pub use_rule-requires-clause-table : goal.use_rule-requires-clause-table
use_rule-requires-clause-table c =
    let before = Extends-trans c.in_ok-goal_is_admitted.ensures.grows.extends c.in_ok-is_plain.ensures.grows.extends in
    IsTable-extended (Extends-trans before c.in_ok-is_plain-2.ensures.grows.extends) c.requires.table

pub use_rule-requires-clause-left : goal.use_rule-requires-clause-left
use_rule-requires-clause-left c =
    let before = Extends-trans c.in_ok-goal_is_admitted.ensures.grows.extends c.in_ok-is_plain.ensures.grows.extends in
    plain_kept c.in_ok-is_plain-2.ensures.grows.extends (IsTable-extended before c.requires.table) (c.in_ok-is_plain.ensures.plain c.if-not-branch-2.false)

pub use_rule-requires-clause-goal : goal.use_rule-requires-clause-goal
use_rule-requires-clause-goal c =
    let e = c.in_ok-goal_is_admitted.ensures in
    let before = Extends-trans e.grows.extends c.in_ok-is_plain.ensures.grows.extends in
    IsPosed-later (Goes-extends c.requires.table (Extends-trans before c.in_ok-is_plain-2.ensures.grows.extends)) (IsPosed-admitted c.requires.table (e.admitted.0 c.if-not-branch.false))
