use Rattle.nts_table.specs.TableLaws.{IsTable-extended}
use Rattle.nts_evaluation_vectors.proofs.asking.may_hold.Goals as goal

pub root_goal_may_hold_with_depth-requires-clause-table :
    goal.root_goal_may_hold_with_depth-requires-clause-table
root_goal_may_hold_with_depth-requires-clause-table g c = IsTable-extended c.in_ok-goal_is_admitted.ensures.grows.extends c.requires.table

pub goal_is_admitted-requires-2-clause-table : goal.goal_is_admitted-requires-2-clause-table
goal_is_admitted-requires-2-clause-table g c =
    let asked = IsTable-extended c.in_ok-goal_is_admitted.ensures.grows.extends c.requires.table in
    rw c.in_ok-deep.ensures.same (IsTable-extended c.in_ok-deep.ensures.grows.extends asked)

pub root_goal_may_hold_opaque_types_jank-requires-clause-table :
    goal.root_goal_may_hold_opaque_types_jank-requires-clause-table
root_goal_may_hold_opaque_types_jank-requires-clause-table g c =
    let asked = IsTable-extended c.in_ok-goal_is_admitted.ensures.grows.extends c.requires.table in
    let deep = IsTable-extended c.in_ok-deep.ensures.grows.extends asked in
    rw c.in_ok-deep.ensures.same (IsTable-extended c.in_ok-goal_is_admitted-2.ensures.grows.extends deep)

pub returns-clause-table : goal.returns-clause-table
returns-clause-table g c =
    let asked = IsTable-extended c.in_ok-goal_is_admitted.ensures.grows.extends c.requires.table in
    let deep = IsTable-extended c.in_ok-deep.ensures.grows.extends asked in
    let again = IsTable-extended c.in_ok-goal_is_admitted-2.ensures.grows.extends deep in
    rw c.in_ok-good.ensures.same (rw c.in_ok-deep.ensures.same (IsTable-extended c.in_ok-good.ensures.grows.extends again))
