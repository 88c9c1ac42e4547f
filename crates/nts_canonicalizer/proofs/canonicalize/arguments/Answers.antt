use Rattle.std.proofs.Common.{arith}
use Rattle.nts_store.proofs.Growing.{Extends-trans}
use Rattle.nts_canonical.proofs.PairLists.{AreLeafArgs-kept, leaf_more}
use Rattle.nts_canonicalizer.proofs.canonicalize.arguments.Goals as goal

pub loop-i-preserved : goal.loop-i-preserved
loop-i-preserved c =
    let up = c.in_ok-node.ensures.extends in
    let old = AreLeafArgs-kept c.loop-i.nodes c.make.new.self c.loop-i.arguments.items _ c.loop-i.invariant.are up in
    record {
      are = leaf_more c.make.new.self c.loop-i.arguments.items c.push.new.self.items c.args.leaves.now c.loop-i.i _ _ old (omega (arith, c.loop-i-test.true)) c.in_ok-node.ensures.within c.in_ok-node.ensures.tree c.in_ok-push.ensures.items;
      extends = Extends-trans c.loop-i.invariant.extends up;
    }
