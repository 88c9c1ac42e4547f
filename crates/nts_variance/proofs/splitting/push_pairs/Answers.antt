use Rattle.std.proofs.Common.{◌≡◌, ◌+◌, ◌-◌, ◌<◌, sym, ap, ◌∙◌, arith}
use Rattle.nts_model.specs.Terms.Trees.{row_length, row_at, children}
use Rattle.nts_model.specs.Derivations.Related.{times, first_variance}
use Rattle.nts_variance_model.specs.Variances.Forms.{variances_over}
use Rattle.nts_store.specs.Growth.{tree_at}
use Rattle.nts_terms.specs.Signatures.{variances_in}
use Rattle.nts_variance.specs.Steps.{stacked}
use Rattle.nts_variance.specs.Parts.{form_of_tree, parts_of, variance_in, variances_from}
use Rattle.nts_variance.specs.Terms.{pair_at}
use Rattle.nts_variance.proofs.Runs.{stacked-push}
use Rattle.nts_variance.proofs.Pushing.{variance_of_place, over_has_parts}
use Rattle.nts_variance.proofs.Pairing.{pairs_none, pairs_one, part_side, pairs_push}
use Rattle.nts_variance.proofs.splitting.push_pairs.Goals as goal

pub loop-i-init : goal.loop-i-init
loop-i-init c =
    let ts = c.args.nodes.now in
    let a = tree_at ts c.args.pair.left in
    let count : c.child_count-count.result ≡ row_length (parts_of a) = c.child_count-count.ensures.count ∙ ap row_length c.holder-left.ensures.parts in
    record {
      within = omega (arith, count);
      pairs = sym (pairs_none c.args.pair.variance (variances_over (variances_in c.args.declarations.now) (form_of_tree a) (parts_of a)) (parts_of a) (parts_of (tree_at ts c.args.pair.right)) _ _ c.holder-left.ensures.row count);
      known = λ d ka kb h. h;
    }

pub loop-i-preserved : goal.loop-i-preserved
loop-i-preserved c =
    let ts = c.args.nodes.now in
    let p = c.args.pair in
    let a = tree_at ts p.left in
    let b = tree_at ts p.right in
    let i = c.loop-i.invariant in
    let k = c.loop-i.i - 1 in
    let ws = variances_over (variances_in c.args.declarations.now) (form_of_tree a) (parts_of a) in
    let count : c.child_count-count.result ≡ row_length (parts_of a) = c.child_count-count.ensures.count ∙ ap row_length c.holder-left.ensures.parts in
    let step : c.loop-i.i ≡ k + 1 = omega (arith, c.loop-i-test.true) in
    let less : k < row_length (parts_of a) = omega (arith, c.loop-i-test.true, i.within) in
    let short : k < row_length (parts_of b) = omega (arith, less, c.requires.form.long) in
    let items = c.in_ok-push.ensures.items in
    let is = c.label-label.ensures.is in
    let again = c.requires.form.left in
    let whole = again.with_parts in
    let with_label = over_has_parts (form_of_tree a) (parts_of a) c.label-label.result _ (sym whole.is ∙ is) in
    let vary_at : first_variance (variances_from k ws) ≡ variance_in (variances_in c.args.declarations.now) c.label-label.result k (row_length (parts_of a)) = variance_of_place (variances_in c.args.declarations.now) a c.label-label.result (children a) k is with_label c.holder-left.ensures.row less in
    let left_at : tree_at ts c.child.result ≡ row_at (parts_of a) k = c.child.ensures.tree ∙ ap (λ r. row_at r k) c.holder-left.ensures.parts in
    let right_at : tree_at ts c.child-in-loop-i.result ≡ row_at (parts_of b) k = c.child-in-loop-i.ensures.tree ∙ ap (λ r. row_at r k) c.holder-right.ensures.parts in
    let vary : c.variance_of_part-argument.result ≡ first_variance (variances_from k ws) = c.variance_of_part-argument.ensures ∙ ap (variance_in (variances_in c.args.declarations.now) c.label-label.result k) count ∙ sym vary_at in
    record {
      within = omega (arith, less);
      pairs = ap (stacked (pair_at ts)) items ∙ stacked-push (pair_at ts) c.loop-i.pairs.items _ ∙ pairs_one p.variance c.times.result ws (parts_of a) (parts_of b) (tree_at ts c.child.result) (tree_at ts c.child-in-loop-i.result) _ _ c.loop-i.i k step less short left_at right_at (c.times.ensures ∙ ap (times p.variance) vary) i.pairs;
      known = λ d ka kb h. rw items (pairs_push ts d c.loop-i.pairs.items _ (i.known d ka kb h) (record { left = part_side ts d p.left c.child.result k again less ka c.child.ensures.within left_at; right = part_side ts d p.right c.child-in-loop-i.result k c.requires.form.right short kb c.child-in-loop-i.ensures.within right_at }));
    }

pub returns-clause-pushed : goal.returns-clause-pushed
returns-clause-pushed c =
    let i = c.loop-i.invariant in
    let none : c.loop-i.i ≡ 0 = omega (arith, c.loop-i-test.false) in
    record { pairs = rw none at i.pairs; known = i.known }
