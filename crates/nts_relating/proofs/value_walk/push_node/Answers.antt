use Rattle.std.proofs.Common.{◌≡◌, ◌+◌, ◌-◌, ◌<◌, ap, sym, arith, ◌∙◌}
use Rattle.nts_model.specs.Terms.Trees.{children, row_length}
use Rattle.nts_store.specs.Growth.{tree_at}
use Rattle.nts_relating.specs.Parts.{inner}
use Rattle.nts_relating.proofs.GenLemmas.{binders_le}
use Rattle.nts_relating.proofs.ValueTasks.{entered_none, entered_more}
use Rattle.nts_relating.proofs.value_walk.push_node.Goals as goal

pub overflow_add-binders : goal.overflow_add-binders
overflow_add-binders c = omega (arith, c.binders_of.ensures, binders_le c.label-label.result, c.child-term.ensures.before, c.requires.room)

pub loop-i-init : goal.loop-i-init
loop-i-init c = record {
  within = omega (arith, c.child_count-i.ensures.count);
  entered = entered_none c.args.nodes.now _ _ _ _ _ c.child_count-i.ensures.count;
}

pub loop-i-preserved : goal.loop-i-preserved
loop-i-preserved c =
    let step : c.loop-i.i ≡ (c.loop-i.i - 1) + 1 = omega (arith, c.loop-i-test.true) in
    let less : c.loop-i.i - 1 < row_length (children (tree_at c.args.nodes.now c.args.part.term)) = omega (arith, c.loop-i-test.true, c.loop-i.invariant.within) in
    let under : c.args.part.binders + c.binders_of.result ≡ inner c.args.part.binders (tree_at c.args.nodes.now c.args.part.term) = ap (λ n. c.args.part.binders + n) c.binders_of.ensures ∙ sym (ap (inner c.args.part.binders) c.label-label.ensures.is) in
    record {
      within = omega (arith, less);
      entered = entered_more c.args.nodes.now _ _ _ c.loop-i.i _ _ _ _ _ _ c.loop-i.invariant.entered step less c.child-term.ensures.within c.child-term.ensures.before c.child-term.ensures.tree under c.in_ok-push-2.ensures.items;
    }
