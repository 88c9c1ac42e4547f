use Rattle.std.proofs.Common.{◌≡◌, ◌+◌, ◌-◌, ◌<◌, arith}
use Rattle.nts_model.specs.Terms.Trees.{children, row_length}
use Rattle.nts_store.specs.Growth.{tree_at}
use Rattle.nts_relating.proofs.PairLemmas.{pushed_none, pushed_more}
use Rattle.nts_relating.proofs.relate.push_children.Goals as goal

pub loop-i-init : goal.loop-i-init
loop-i-init c = record {
  within = omega (arith, c.child_count-i.ensures.count);
  pushed = pushed_none c.args.nodes.now _ _ _ _ c.child_count-i.ensures.row c.requires.row c.child_count-i.ensures.count c.requires.long;
}

pub loop-i-preserved : goal.loop-i-preserved
loop-i-preserved c =
    let step : c.loop-i.i ≡ (c.loop-i.i - 1) + 1 = omega (arith, c.loop-i-test.true) in
    let left : c.loop-i.i - 1 < row_length (children (tree_at c.args.nodes.now c.args.a)) = omega (arith, c.loop-i-test.true, c.loop-i.invariant.within) in
    let right : c.loop-i.i - 1 < row_length (children (tree_at c.args.nodes.now c.args.b)) = omega (arith, left, c.requires.long) in
    record {
      within = omega (arith, left);
      pushed = pushed_more c.args.nodes.now _ _ _ _ _ _ c.loop-i.i _ _ c.loop-i.invariant.pushed step left right c.child.ensures.within c.child-in-loop-i.ensures.within c.child.ensures.tree c.child-in-loop-i.ensures.tree c.in_ok-push.ensures.items;
    }

pub returns-clause-pushed : goal.returns-clause-pushed
returns-clause-pushed c =
    let ends : c.loop-i.i ≡ 0 = omega (arith, c.loop-i-test.false) in rw ends at c.loop-i.invariant.pushed
