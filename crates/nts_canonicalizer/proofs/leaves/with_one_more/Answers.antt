use Rattle.std.proofs.Common.{arith, refl}
use Rattle.nts_canonicalizer.proofs.AddingLeaves.{inserted-next, inserted-last}
use Rattle.nts_canonicalizer.proofs.leaves.with_one_more.Goals as goal

pub loop-it-preserved : goal.loop-it-preserved
loop-it-preserved c =
    inserted-next c.args.list.now c.loop-it.set.keys _ c.loop-it.it-index _ _ c.requires (omega (arith, c.loop-it-test.true)) c.loop-it.invariant refl c.in_ok-insert.ensures.keys

pub returns : goal.returns
returns c =
    inserted-last c.args.list.now c.loop-it.set.keys _ c.loop-it.it-index c.args.leaf (omega (arith, c.loop-it-test.false)) c.loop-it.invariant c.in_ok-insert-2.ensures.keys
