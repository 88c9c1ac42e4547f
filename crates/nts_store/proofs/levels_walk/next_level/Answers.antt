use Rattle.std.proofs.Common.{◌≡◌, ◌<◌, nat_lt, ap, ◌∙◌, arith}
use Rattle.std.specs.Prelude.{IsTrue}
use Rattle.nts_model.specs.Terms.Trees.{children, binders, row_length}
use Rattle.nts_store.specs.Growth.{tree_at}
use Rattle.nts_store.proofs.Pending.{above-all, above-falls}
use Rattle.nts_store.proofs.Levels.{binders_of, binders_same, binders_one, binders_none, left_within, left_below, left_skipped, left_fails, left_after, added_none, added_here, added_deeper}
use Rattle.nts_store.proofs.levels_walk.next_level.Goals as goal
use Rattle.nts_store.proofs.levels_walk.next_level.Goals.{then-binds+in_ok-insert, else-binds+in_ok-insert-2}

pub is_closed_under-requires : goal.is_closed_under-requires
is_closed_under-requires c = left_within _ _ _ _ _ _ _ _ c.loop-number.invariant c.in-Some.ensures.removal

pub label-label-requires : goal.label-label-requires
label-label-requires c = left_within _ _ _ _ _ _ _ _ c.loop-number.invariant c.in-Some.ensures.removal

pub loop-number-smaller-then-is_closed_under : goal.loop-number-smaller-then-is_closed_under
loop-number-smaller-then-is_closed_under c =
    above-falls _ _ _ _ c.in-Some.ensures.removal (above-all _ _ c.in-Some.ensures.all_below)

pub loop-number-preserved-then-is_closed_under : goal.loop-number-preserved-then-is_closed_under
loop-number-preserved-then-is_closed_under c =
    left_skipped _ _ _ _ _ _ _ _ c.loop-number.invariant c.in-Some.ensures.removal (c.is_closed_under.ensures c.if-is_closed_under.true)

pub returns-then-not-is_listed-clause-none : goal.returns-then-not-is_listed-clause-none
returns-then-not-is_listed-clause-none c = λ q h.
    let p = left_fails _ _ _ _ _ _ _ _ _ _ c.loop-number.invariant c.in-Some.ensures.removal c.label-label.ensures.is h in
    let yes : IsTrue c.is_listed.result = c.is_listed.ensures.1 p in
    cc

pub loop-i-init : goal.loop-i-init
loop-i-init c = added_none _ _ _ _ _ _ _ _ _ c.in-Some.ensures.all_below c.loop-number.invariant.below

pub loop-number-smaller : goal.loop-number-smaller
loop-number-smaller c = above-falls _ _ _ _ c.in-Some.ensures.removal c.loop-i.invariant.at_level

pub loop-number-preserved : goal.loop-number-preserved
loop-number-preserved c =
    let same : binders_of (nat_lt 0 c.binders_of-binds.result) ≡ binders c.label-label.result = ap (λ n. binders_of (nat_lt 0 n)) c.binders_of-binds.ensures ∙ binders_same c.label-label.result in
    let i_is : c.loop-i.i ≡ row_length (children (tree_at c.args.nodes.now (record { number = c.in-Some.number }))) = omega (arith, c.child_count-i-end.ensures.count, c.loop-i-test.false, c.loop-i.auto.i-end) in
    left_after _ _ _ _ _ _ _ _ _ _ _ _ _ c.loop-number.invariant c.in-Some.ensures.removal c.label-label.ensures.is (c.is_listed.ensures.0 c.if-not-is_listed.false) c.child_count-i-end.ensures.row i_is (rw same at c.loop-i.invariant)

pub loop-i-preserved : goal.loop-i-preserved
loop-i-preserved c =
    let inside : c.loop-i.i < row_length (children (tree_at c.args.nodes.now (record { number = c.in-Some.number }))) = omega (arith, c.child_count-i-end.ensures.count, c.loop-i-test.true) in
    let below = left_below _ _ _ _ _ _ _ _ c.loop-number.invariant c.in-Some.ensures.removal in
    elim c.if-binds.branch [
      | then-binds+in_ok-insert w ↦
          rw (w.here-is, w.deeper-is)
          (added_deeper _ _ _ _ _ _ _ _ _ _ _ _ _ _ c.loop-i.invariant (binders_one c.binders_of-binds.result w.if-binds.true) below c.child-child.ensures.before inside c.child-child.ensures.tree w.in_ok-insert.ensures.keys)
      | else-binds+in_ok-insert-2 w ↦
          rw (w.here-is, w.deeper-is)
          (added_here _ _ _ _ _ _ _ _ _ _ _ _ _ _ c.loop-i.invariant (binders_none c.binders_of-binds.result w.if-binds.false) c.child-child.ensures.before inside c.child-child.ensures.tree w.in_ok-insert-2.ensures.keys)
    ]
