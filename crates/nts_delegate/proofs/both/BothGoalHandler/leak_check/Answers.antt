use Rattle.std.proofs.Common.{inr}
use Rattle.nts_table.specs.nts_unify.specs.Lawful.{content_of-extended}
use Rattle.nts_table.specs.TableLaws.{IsTable-extended}
use Rattle.nts_delegate.proofs.both.BothGoalHandler.leak_check.Goals as goal

pub leak_check-requires-2-clause-table : goal.leak_check-requires-2-clause-table
leak_check-requires-2-clause-table g c = IsTable-extended c.leak_check.ensures.grows.extends c.requires.table

pub returns-clause-leaks : goal.returns-clause-leaks
returns-clause-leaks g c = λ no.
    let e = c.leak_check.ensures.grows.extends in
    let means = g.met.B.GoalHandler.handler_kept c.args.cx.now.nodes c.leak_check.new.cx.nodes c.args.self.now.second c.requires.ready.1 e in
    let there = c.leak_check-2.ensures.leaks no in
    inr (means.leaks _ _ (rw (content_of-extended e c.requires.table.now) at there))
