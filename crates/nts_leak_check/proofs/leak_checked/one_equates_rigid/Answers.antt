use Rattle.nts_leak_check.proofs.News.{recorded_at}
use Rattle.nts_leak_check.proofs.leak_checked.one_equates_rigid.Goals as goal

pub equates_rigid-requires : goal.equates_rigid-requires
equates_rigid-requires c = c.requires c.loop-constraint.constraint-index _ c.loop-constraint-test.true

pub returns-then-equates_rigid : goal.returns-then-equates_rigid
returns-then-equates_rigid c = λ t.
    record { constraint = _; among = recorded_at c.args.cx.now.nodes c.args.constraints.now c.loop-constraint.constraint-index _ c.loop-constraint-test.true; equates = c.equates_rigid.ensures c.if-equates_rigid.true }
