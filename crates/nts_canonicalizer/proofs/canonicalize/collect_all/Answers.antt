use Rattle.std.proofs.Common.{arith}
use Rattle.nts_canonical.proofs.PairLists.{are_hidden-at}
use Rattle.nts_canonicalizer.proofs.canonicalize.collect_all.Goals as goal

pub collect-requires-in-loop-i : goal.collect-requires-in-loop-i
collect-requires-in-loop-i c =
    (are_hidden-at c.args.cx.now.nodes c.args.opaque_types.now c.loop-i.i _ c.requires.hidden (omega (arith, c.loop-i-test.true))).args.within

pub collect-requires-in-loop-i-2 : goal.collect-requires-in-loop-i-2
collect-requires-in-loop-i-2 c =
    (are_hidden-at c.args.cx.now.nodes c.args.opaque_types.now c.loop-i.i _ c.requires.hidden (omega (arith, c.loop-i-test.true))).hidden_type.within
