use Rattle.std.proofs.Common.{arith}
use Rattle.nts_canonical.proofs.PairLists.{are_hidden-at}
use Rattle.nts_canonical.proofs.Telling.{rows_tell}
use Rattle.nts_canonical.proofs.alike.same_hidden.Goals as goal

pub returns-then-a-b : goal.returns-then-a-b
returns-then-a-b c = ((λ h. cc), λ h. absurd (c.if-a-b.true ((rows_tell c.args.nodes.now).lengths _ _ h)))

pub same_pair-requires-clause-left : goal.same_pair-requires-clause-left
same_pair-requires-clause-left c = are_hidden-at c.args.nodes.now c.args.a.now c.loop-i.i _ c.requires.left (omega (arith, c.loop-i-test.true))

pub same_pair-requires-clause-right : goal.same_pair-requires-clause-right
same_pair-requires-clause-right c = are_hidden-at c.args.nodes.now c.args.b.now c.loop-i.i _ c.requires.right (omega (arith, c.loop-i-test.true, c.if-a-b.false))
