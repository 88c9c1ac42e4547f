use Rattle.std.proofs.Common.{◌≡◌, ◌<◌, arith}
use Rattle.std.specs.Prelude.{IsTrue}
use Rattle.nts_model.specs.Terms.Trees.{children, row_length}
use Rattle.nts_store.specs.Growth.{tree_at}
use Rattle.nts_store.proofs.Pending.{left_within, left_fails, left_after, added_none, added_more, above-falls}
use Rattle.nts_store.proofs.labels_walk.all_labels.Goals as goal

pub label-requires : goal.label-requires
label-requires g c =
    left_within (g.T.LabelTest.passes c.args.test.now) _ _ _ _ _ c.loop-number.invariant c.in-Some.ensures.removal

pub returns-then-not-test : goal.returns-then-not-test
returns-then-not-test g c = (
  (λ h. cc),
  λ h. let P = g.T.LabelTest.passes c.args.test.now in
      let p = left_fails P _ _ _ _ _ _ _ c.loop-number.invariant c.in-Some.ensures.removal c.label.ensures.is h in
      let yes : IsTrue c.test.result = c.test.ensures.1 p in
      cc,
)

pub loop-i-init : goal.loop-i-init
loop-i-init g c = added_none (g.T.LabelTest.passes c.args.test.now) _ _ _ _ c.in-Some.ensures.all_below

pub loop-i-preserved : goal.loop-i-preserved
loop-i-preserved g c =
    let inside : c.loop-i.i < row_length (children (tree_at c.args.nodes.now (record { number = c.in-Some.number }))) = omega (arith, c.child_count-i-end.ensures.count, c.loop-i-test.true) in
    added_more (g.T.LabelTest.passes c.args.test.now) _ _ _ _ _ _ _ _ c.loop-i.invariant c.child.ensures.before inside c.child.ensures.tree c.in_ok-insert-2.ensures.keys

pub loop-number-smaller : goal.loop-number-smaller
loop-number-smaller g c = above-falls _ _ _ _ c.in-Some.ensures.removal c.loop-i.invariant.below

pub loop-number-preserved : goal.loop-number-preserved
loop-number-preserved g c =
    let P = g.T.LabelTest.passes c.args.test.now in
    let p = c.test.ensures.0 c.if-not-test.false in
    let i_is : c.loop-i.i ≡ row_length (children (tree_at c.args.nodes.now (record { number = c.in-Some.number }))) = omega (arith, c.child_count-i-end.ensures.count, c.loop-i-test.false, c.loop-i.auto.i-end) in
    left_after P _ _ _ _ _ _ _ _ _ c.loop-number.invariant c.in-Some.ensures.removal c.label.ensures.is p c.child_count-i-end.ensures.row i_is c.loop-i.invariant
