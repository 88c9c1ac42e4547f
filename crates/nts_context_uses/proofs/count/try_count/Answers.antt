use Rattle.nts_store.proofs.Growing.{Extends-trans}
use Rattle.nts_table.specs.TableLaws.{IsTable-extended}
use Rattle.nts_delegate.specs.ClausesKept.{AreClausesReady-kept}
use Rattle.nts_meaning.proofs.Evaluating.{Goes-extends, IsPosed-later, IsPosed-admitted}
use Rattle.nts_context_uses.proofs.Asked.{plain_kept}
use Rattle.nts_context_uses.proofs.count.try_count.Goals as goal

pub goal_is_admitted-requires-else-not-branch-clause-table : goal.goal_is_admitted-requires-else-not-branch-clause-table
goal_is_admitted-requires-else-not-branch-clause-table c = IsTable-extended c.in_ok-goal_is_admitted.ensures.grows.extends c.requires.table

pub is_plain-requires : goal.is_plain-requires
is_plain-requires c = record { table = IsTable-extended (Extends-trans c.in_ok-goal_is_admitted.ensures.grows.extends c.in_ok-goal_is_admitted-2.ensures.grows.extends) c.requires.table }

pub is_plain-requires-else-not-branch-3 : goal.is_plain-requires-else-not-branch-3
is_plain-requires-else-not-branch-3 c =
    let both = Extends-trans c.in_ok-goal_is_admitted.ensures.grows.extends c.in_ok-goal_is_admitted-2.ensures.grows.extends in
    record { table = IsTable-extended (Extends-trans both c.in_ok-is_plain.ensures.grows.extends) c.requires.table }

pub count_goals-requires-clause-table : goal.count_goals-requires-clause-table
count_goals-requires-clause-table c =
    let both = Extends-trans c.in_ok-goal_is_admitted.ensures.grows.extends c.in_ok-goal_is_admitted-2.ensures.grows.extends in
    IsTable-extended (Extends-trans (Extends-trans both c.in_ok-is_plain.ensures.grows.extends) c.in_ok-is_plain-2.ensures.grows.extends) c.requires.table

pub count_goals-requires-clause-ready : goal.count_goals-requires-clause-ready
count_goals-requires-clause-ready c =
    let both = Extends-trans c.in_ok-goal_is_admitted.ensures.grows.extends c.in_ok-goal_is_admitted-2.ensures.grows.extends in
    AreClausesReady-kept _ _ c.args.rules.now c.requires.ready (Extends-trans (Extends-trans both c.in_ok-is_plain.ensures.grows.extends) c.in_ok-is_plain-2.ensures.grows.extends)

pub count_goals-requires-clause-left : goal.count_goals-requires-clause-left
count_goals-requires-clause-left c =
    let both = Extends-trans c.in_ok-goal_is_admitted.ensures.grows.extends c.in_ok-goal_is_admitted-2.ensures.grows.extends in
    plain_kept c.in_ok-is_plain-2.ensures.grows.extends (IsTable-extended (Extends-trans both c.in_ok-is_plain.ensures.grows.extends) c.requires.table) (c.in_ok-is_plain.ensures.plain c.if-not-branch-3.false)

pub count_goals-requires-clause-first : goal.count_goals-requires-clause-first
count_goals-requires-clause-first c =
    let e = c.in_ok-goal_is_admitted.ensures in
    let both = Extends-trans e.grows.extends c.in_ok-goal_is_admitted-2.ensures.grows.extends in
    let all = Extends-trans (Extends-trans both c.in_ok-is_plain.ensures.grows.extends) c.in_ok-is_plain-2.ensures.grows.extends in
    IsPosed-later (Goes-extends c.requires.table all) (IsPosed-admitted c.requires.table (e.admitted.0 c.if-not-branch.false))

pub count_goals-requires-clause-second : goal.count_goals-requires-clause-second
count_goals-requires-clause-second c =
    let e = c.in_ok-goal_is_admitted.ensures in
    let k = c.in_ok-goal_is_admitted-2.ensures in
    let there = IsTable-extended e.grows.extends c.requires.table in
    let all = Extends-trans (Extends-trans k.grows.extends c.in_ok-is_plain.ensures.grows.extends) c.in_ok-is_plain-2.ensures.grows.extends in
    IsPosed-later (Goes-extends there all) (IsPosed-admitted there (k.admitted.0 c.if-not-branch-2.false))
