use Rattle.std.proofs.Common.{◌≡◌, ◌+◌, ◌-◌, ◌<◌, ◌^◌, refl, sym, ap, ◌∙◌, arith}
use Rattle.nts_model.specs.Terms.Trees.{row_length, row_at, children}
use Rattle.nts_model.specs.Derivations.Related.{times, first_variance}
use Rattle.nts_relating.proofs.GenLemmas.{binders_le}
use Rattle.nts_variance_model.specs.Variances.Forms.{variances_over}
use Rattle.nts_store.specs.Growth.{tree_at}
use Rattle.nts_terms.specs.Signatures.{variances_in}
use Rattle.nts_variance.specs.declared.vary_walk.Task.TheVariants as task
use Rattle.nts_variance.specs.Steps.{stacked}
use Rattle.nts_variance.specs.Parts.{form_of_tree, parts_of, variance_in, variances_from}
use Rattle.nts_variance.specs.Terms.{step_at}
use Rattle.nts_variance.proofs.Runs.{stacked-push}
use Rattle.nts_variance.proofs.Pushing.{entering_none, entering_one, variance_of_place, part_entered, over_has_parts, sorts_fit, tasks_push}
use Rattle.nts_variance.proofs.vary_walk.push_parts.Goals as goal

pub loop-i-init : goal.loop-i-init
loop-i-init c =
    let ts = c.args.nodes.now in
    let t = tree_at ts c.args.spot.term in
    let count : c.child_count-count.result ≡ row_length (parts_of t) = c.child_count-count.ensures.count ∙ ap row_length c.holder-row.ensures.parts in
    let items = c.in_ok-push.ensures.items in
    record {
      within = omega (arith, count);
      steps = sym (entering_none c.args.spot.variance (variances_over (variances_in c.args.declarations.now) (form_of_tree t) (parts_of t)) c.args.spot.is_quiet (parts_of t) _ _ c.holder-row.ensures.row count);
      tasks = λ d known h. h;
    }

pub loop-i-preserved : goal.loop-i-preserved
loop-i-preserved c =
    let ts = c.args.nodes.now in
    let t = tree_at ts c.args.spot.term in
    let i = c.loop-i.invariant in
    let k = c.loop-i.i - 1 in
    let count : c.child_count-count.result ≡ row_length (parts_of t) = c.child_count-count.ensures.count ∙ ap row_length c.holder-row.ensures.parts in
    let step : c.loop-i.i ≡ k + 1 = omega (arith, c.loop-i-test.true) in
    let less : k < row_length (parts_of t) = omega (arith, c.loop-i-test.true, i.within) in
    let items = c.in_ok-push-2.ensures.items in
    let is = c.label-label.ensures.is in
    let whole = c.requires.again.with_parts in
    let with_label = over_has_parts (form_of_tree t) (parts_of t) c.label-label.result _ (sym whole.is ∙ is) in
    let vary_at : first_variance (variances_from k (variances_over (variances_in c.args.declarations.now) (form_of_tree t) (parts_of t))) ≡ variance_in (variances_in c.args.declarations.now) c.label-label.result k (row_length (parts_of t)) = variance_of_place (variances_in c.args.declarations.now) t c.label-label.result (children t) k is with_label c.holder-row.ensures.row less in
    let at : tree_at ts c.child.result ≡ row_at (parts_of t) k = c.child.ensures.tree ∙ ap (λ r. row_at r k) c.holder-row.ensures.parts in
    let vary : c.variance_of_part-argument.result ≡ first_variance (variances_from k (variances_over (variances_in c.args.declarations.now) (form_of_tree t) (parts_of t))) = c.variance_of_part-argument.ensures ∙ ap (variance_in (variances_in c.args.declarations.now) c.label-label.result k) count ∙ sym vary_at in
    let room : c.args.spot.binders + c.binders_of.result + c.child.result.number < 2 ^ 64 = (let small = binders_le c.label-label.result in omega (arith, c.binders_of.ensures, small, c.child.ensures.before, c.holder-row.ensures.before, c.requires.room)) in
    record {
      within = omega (arith, less);
      steps = ap (stacked (step_at ts)) items ∙ stacked-push (step_at ts) c.loop-i.tasks.items _ ∙ entering_one c.args.spot.variance c.times.result (variances_over (variances_in c.args.declarations.now) (form_of_tree t) (parts_of t)) c.args.spot.is_quiet (parts_of t) (tree_at ts c.child.result) _ _ c.loop-i.i k step less at (c.times.ensures ∙ ap (times c.args.spot.variance) vary) i.steps;
      tasks = λ d known h. rw items (tasks_push ts d c.loop-i.tasks.items _ (i.tasks d known h) (part_entered ts d c.args.spot.term c.child.result c.label-label.result k c.args.spot.binders _ c.requires.again is less c.requires.closed known c.child.ensures.within at refl (ap (λ n. c.args.spot.binders + n) c.binders_of.ensures) room));
    }

pub returns-clause-pushed : goal.returns-clause-pushed
returns-clause-pushed c =
    let ts = c.args.nodes.now in
    let t = tree_at ts c.args.spot.term in
    let i = c.loop-i.invariant in
    let none : c.loop-i.i ≡ 0 = omega (arith, c.loop-i-test.false) in
    let items = c.in_ok-push.ensures.items in
    let first = ap (stacked (step_at ts)) items ∙ stacked-push (step_at ts) c.args.tasks.now.items (task.Build c.args.spot.term) in
    record {
      steps = rw first at (rw none at i.steps);
      tasks = λ d known h. i.tasks d known (rw items (tasks_push ts d c.args.tasks.now.items (task.Build c.args.spot.term) h (record { within = c.requires.within; knows = known; is = c.requires.again.with_parts.is; sorts = sorts_fit (form_of_tree t) (parts_of t) c.requires.again.fits })));
    }
