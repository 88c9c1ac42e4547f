use Rattle.std.proofs.Common.{◌++◌, ◌<◌, inl, inr, refl, sym, ap, ◌∙◌, subst, arith}
use Rattle.nts_model.specs.Terms.Trees.{row_at, row_length, children}
use Rattle.nts_store.specs.Growth.{tree_at}
use Rattle.nts_store.specs.Sorts.{ChildrenFit}
use Rattle.nts_store.proofs.Growing.{Extends-refl, Extends-trans}
use Rattle.nts_terms.specs.Signatures.{variances_in}
use Rattle.nts_unify.proofs.Keeping.{KeepsHidden-refl, KeepsHidden-trans}
use Rattle.nts_relating.proofs.PairLemmas.{err_of}
use Rattle.nts_variance.proofs.Arguments.{argument_side, rows_start, rows_step, rows_refused, rows_end}
use Rattle.nts_variance.proofs.Growing.{Knows-grown}
use Rattle.nts_variance.proofs.rows.relate_arguments.Goals as goal

pub returns-then-child_count-count-clause-no : goal.returns-then-child_count-count-clause-no
returns-then-child_count-count-clause-no c = λ q. inl (λ e. c.if-child_count-count.true (c.child_count.ensures.count ∙ sym e ∙ sym c.child_count-count.ensures.count))

pub loop-i-init : goal.loop-i-init
loop-i-init c =
    let ts = c.args.nodes.now in
    record {
      extends = Extends-refl ts;
      changes = KeepsHidden-refl _;
      going = rows_start (variances_in c.args.declarations.now) ts c.args.table.now.entries (tree_at ts c.args.left) (tree_at ts c.args.right) _ c.requires.lawful c.new-goals.ensures.items;
    }

pub relate_pair-requires-clause-pair : goal.relate_pair-requires-clause-pair
relate_pair-requires-clause-pair c =
    let ts = c.args.nodes.now in
    let i = c.loop-i.invariant in
    let left_kept = i.extends.kept c.args.left c.requires.left.within in
    let right_kept = i.extends.kept c.args.right c.requires.right.within in
    let less : c.loop-i.i < row_length (children (tree_at ts c.args.left)) = omega (arith, c.loop-i-test.true, c.child_count-count.ensures.count) in
    let short : c.loop-i.i < row_length (children (tree_at ts c.args.right)) = omega (arith, c.loop-i-test.true, c.if-child_count-count.false, c.child_count.ensures.count) in
    record {
      left = argument_side c.args.left c.child.result c.loop-i.i c.requires.left (Knows-grown (tree_at ts c.args.left) i.going.takes.later) (subst ChildrenFit left_kept c.child.ensures.formed) less c.child.ensures.within (c.child.ensures.tree ∙ ap (λ t. row_at (children t) c.loop-i.i) left_kept);
      right = argument_side c.args.right c.child-in-loop-i.result c.loop-i.i c.requires.right (Knows-grown (tree_at ts c.args.right) i.going.takes.later) (subst ChildrenFit right_kept c.child-in-loop-i.ensures.formed) short c.child-in-loop-i.ensures.within (c.child-in-loop-i.ensures.tree ∙ ap (λ t. row_at (children t) c.loop-i.i) right_kept);
    }

pub returns-in-Err-clause-no : goal.returns-in-Err-clause-no
returns-in-Err-clause-no c = λ q.
    let ts = c.args.nodes.now in
    let i = c.loop-i.invariant in
    let left_kept = i.extends.kept c.args.left c.requires.left.within in
    let right_kept = i.extends.kept c.args.right c.requires.right.within in
    let less : c.loop-i.i < row_length (children (tree_at ts c.args.left)) = omega (arith, c.loop-i-test.true, c.child_count-count.ensures.count) in
    let short : c.loop-i.i < row_length (children (tree_at ts c.args.right)) = omega (arith, c.loop-i-test.true, c.if-child_count-count.false, c.child_count.ensures.count) in
    inr (rows_refused (variances_in c.args.declarations.now) ts c.loop-i.nodes c.args.table.now.entries c.loop-i.table.entries (tree_at ts c.args.left) (tree_at ts c.args.right) c.loop-i.i _ _ i.going less short refl (c.child.ensures.tree ∙ ap (λ t. row_at (children t) c.loop-i.i) left_kept) (c.child-in-loop-i.ensures.tree ∙ ap (λ t. row_at (children t) c.loop-i.i) right_kept) (c.in-Err.ensures.no (err_of _ _ q)))

pub loop-i-preserved : goal.loop-i-preserved
loop-i-preserved c =
    let ts = c.args.nodes.now in
    let i = c.loop-i.invariant in
    let s = c.in-Ok.ensures in
    let left_kept = i.extends.kept c.args.left c.requires.left.within in
    let right_kept = i.extends.kept c.args.right c.requires.right.within in
    let less : c.loop-i.i < row_length (children (tree_at ts c.args.left)) = omega (arith, c.loop-i-test.true, c.child_count-count.ensures.count) in
    let short : c.loop-i.i < row_length (children (tree_at ts c.args.right)) = omega (arith, c.loop-i-test.true, c.if-child_count-count.false, c.child_count.ensures.count) in
    let items = c.in_ok-extend_from_slice-in-Ok.ensures.items ∙ ap (λ x. c.loop-i.goals.items ++ x) c.deref.ensures.value in
    record {
      extends = Extends-trans i.extends s.extends;
      changes = KeepsHidden-trans i.changes s.changes;
      going = rows_step (variances_in c.args.declarations.now) ts c.loop-i.nodes c.relate_pair.new.nodes c.args.table.now.entries c.loop-i.table.entries c.relate_pair.new.table.entries (tree_at ts c.args.left) (tree_at ts c.args.right) c.loop-i.i _ _ c.loop-i.goals.items c.in-Ok.more.items _ i.going c.requires.lawful.sound c.requires.left.knows c.requires.right.knows less short refl (c.child.ensures.tree ∙ ap (λ t. row_at (children t) c.loop-i.i) left_kept) (c.child-in-loop-i.ensures.tree ∙ ap (λ t. row_at (children t) c.loop-i.i) right_kept) s.extends s.lawful s.related refl items;
    }

pub returns-clause-related : goal.returns-clause-related
returns-clause-related c =
    let ts = c.args.nodes.now in
    let left = c.child_count-count.ensures.count in
    let right = c.child_count.ensures.count in
    let same = c.if-child_count-count.false in
    let last = c.loop-i-test.false in
    rows_end (variances_in c.args.declarations.now) ts c.loop-i.nodes c.args.table.now.entries c.loop-i.table.entries (tree_at ts c.args.left) (tree_at ts c.args.right) c.loop-i.i _ c.loop-i.invariant.going c.child_count-count.ensures.row (omega (arith, left, right, same)) (omega (arith, left, last))
