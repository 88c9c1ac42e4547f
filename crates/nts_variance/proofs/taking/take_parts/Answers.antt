use Rattle.std.proofs.Common.{sym, ap, ◌∙◌}
use Rattle.nts_model.specs.Terms.Trees.{row_length}
use Rattle.nts_store.specs.Growth.{tree_at}
use Rattle.nts_unify.specs.Reading.{content_of}
use Rattle.nts_variance.proofs.Refusals.{refuses_forms_of, refuses_long}
use Rattle.nts_variance.proofs.taking.take_parts.Goals as goal

pub returns-then-not-binds_same-clause-no : goal.returns-then-not-binds_same-clause-no
returns-then-not-binds_same-clause-no c = λ declared q.
    let ts = c.args.nodes.now in
    let p = c.args.pair in
    refuses_forms_of declared (content_of ts c.args.table.now.entries) p.variance (tree_at ts p.left) (tree_at ts p.right) c.requires.pair.left.knows c.requires.pair.right.knows c.requires.left c.requires.right (c.binds_same.ensures.no c.if-not-binds_same.true)

pub returns-then-child_count-clause-no : goal.returns-then-child_count-clause-no
returns-then-child_count-clause-no c = λ declared q.
    let ts = c.args.nodes.now in
    let p = c.args.pair in
    let left = c.child_count.ensures.count ∙ ap row_length c.holder-left.ensures.parts in
    let right = c.child_count-2.ensures.count ∙ ap row_length c.holder-right.ensures.parts in
    refuses_long declared (content_of ts c.args.table.now.entries) p.variance (tree_at ts p.left) (tree_at ts p.right) c.requires.pair.left.knows c.requires.pair.right.knows c.requires.left c.requires.right (c.binds_same.ensures.yes c.if-not-binds_same.false) (λ e. c.if-child_count.true (left ∙ e ∙ sym right))
