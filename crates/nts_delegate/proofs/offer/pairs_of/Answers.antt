use Rattle.std.proofs.Common.{◌≡◌, ◌<◌, refl, arith}
use Rattle.nts_model.specs.Terms.Trees.{children, row_length}
use Rattle.nts_store.specs.Growth.{tree_at}
use Rattle.nts_delegate.proofs.Offering.{pairs_push, pairs_all}
use Rattle.nts_delegate.proofs.offer.pairs_of.Goals as goal

pub loop-i-preserved : goal.loop-i-preserved
loop-i-preserved c =
    let here : c.loop-i.i < row_length (children (tree_at c.args.cx.now.nodes c.args.args.node)) = omega (arith, c.len-count.ensures.count, c.loop-i-test.true) in
    let there : c.loop-i.i < row_length (children (tree_at c.args.cx.now.nodes c.args.head.node)) = omega (arith, c.requires.long) in
    rw c.in_ok-push.ensures.items (pairs_push c.args.cx.now.nodes c.loop-i.i _ _ _ _ here there c.loop-i.invariant (record {
      kind = refl;
      left_in = c.get.ensures.holds.within;
      right_in = c.get-in-loop-i.ensures.holds.within;
      left = c.get.ensures.tree;
      right = c.get-in-loop-i.ensures.tree;
      argument = rw (← c.get.ensures.tree) c.get.ensures.holds.fits;
    }))

pub returns : goal.returns
returns c =
    let all : c.loop-i.i ≡ row_length (children (tree_at c.args.cx.now.nodes c.args.args.node)) = omega (arith, c.len-count.ensures.count, c.loop-i-test.false, c.loop-i.auto.i-end) in
    pairs_all c.args.cx.now.nodes c.loop-i.i _ _ _ c.len-count.ensures.row c.requires.row all c.requires.long c.loop-i.invariant
