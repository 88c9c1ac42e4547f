use Rattle.std.proofs.Common.{arith}
use Rattle.nts_canonical.proofs.VarLists.{owned-at}
use Rattle.nts_canonical.proofs.var_kinds.sub_roots.Goals as goal

pub sub_root_of-requires-clause-owned : goal.sub_root_of-requires-clause-owned
sub_root_of-requires-clause-owned c = owned-at c.args.table.now.entries c.args.leaves.now c.loop-i.i _ c.requires.owned (omega (arith, c.loop-i-test.true))
