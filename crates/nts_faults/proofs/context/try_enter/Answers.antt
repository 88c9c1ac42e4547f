use Rattle.nts_table.specs.TableLaws.{IsTable-extended}
use Rattle.nts_asking.proofs.Asking.{IsAdmitted-extended}
use Rattle.nts_meaning.proofs.Evaluating.{IsPosed-admitted}
use Rattle.nts_faults.proofs.context.try_enter.Goals as goal

pub content_of-requires : goal.content_of-requires
content_of-requires c = IsTable-extended c.in_ok-goal_is_admitted.ensures.grows.extends c.requires.table

pub enter-answer-requires-clause-table : goal.enter-answer-requires-clause-table
enter-answer-requires-clause-table c = IsTable-extended c.in_ok-goal_is_admitted.ensures.grows.extends c.requires.table

pub enter-answer-requires-clause-goal : goal.enter-answer-requires-clause-goal
enter-answer-requires-clause-goal c =
    let e = c.in_ok-goal_is_admitted.ensures in
    IsPosed-admitted (IsTable-extended e.grows.extends c.requires.table) (IsAdmitted-extended e.grows.extends c.requires.table (e.admitted.0 c.if-not-branch.false))
