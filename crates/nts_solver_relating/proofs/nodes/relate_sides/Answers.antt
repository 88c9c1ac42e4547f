use Rattle.std.proofs.Common.{sym, ◌∙◌}
use Rattle.nts_store.specs.Growth.{tree_at}
use Rattle.nts_terms.specs.Signatures.{variances_in}
use Rattle.nts_unify.specs.Reading.{content_of}
use Rattle.nts_solver_relating.proofs.GoalsLeft.{if_ok, lists_of, terms_of, rows_sides, terms_sides, rows_refused, terms_refused}
use Rattle.nts_solver_relating.proofs.nodes.relate_sides.Goals as goal

pub relate_rows-requires-clause-left : goal.relate_rows-requires-clause-left
relate_rows-requires-clause-left c =
    let ts = c.args.nodes.now in
    (lists_of ts (content_of ts c.args.table.now.entries) c.args.left c.args.right c.requires.sides (sym c.is_list_node.ensures ∙ c.if-is_list_node.true)).0

pub relate_rows-requires-clause-right : goal.relate_rows-requires-clause-right
relate_rows-requires-clause-right c =
    let ts = c.args.nodes.now in
    (lists_of ts (content_of ts c.args.table.now.entries) c.args.left c.args.right c.requires.sides (sym c.is_list_node.ensures ∙ c.if-is_list_node.true)).1

pub returns-then-is_list_node-clause-related : goal.returns-then-is_list_node-clause-related
returns-then-is_list_node-clause-related c =
    let ts = c.args.nodes.now in
    if_ok c.relate_rows.result _ _ (λ gs r. rows_sides (variances_in c.args.declarations.now) ts c.relate_rows.new.nodes c.args.table.now.entries c.relate_rows.new.table.entries c.args.variance (tree_at ts c.args.left) (tree_at ts c.args.right) gs.items (sym c.is_list_node.ensures ∙ c.if-is_list_node.true) r) c.relate_rows.ensures.related

pub returns-then-is_list_node-clause-no : goal.returns-then-is_list_node-clause-no
returns-then-is_list_node-clause-no c = λ q.
    let ts = c.args.nodes.now in
    rows_refused (variances_in c.args.declarations.now) (content_of ts c.args.table.now.entries) c.args.variance (tree_at ts c.args.left) (tree_at ts c.args.right) (sym c.is_list_node.ensures ∙ c.if-is_list_node.true) (c.relate_rows.ensures.no q)

pub relate_terms-requires-clause-left : goal.relate_terms-requires-clause-left
relate_terms-requires-clause-left c =
    let ts = c.args.nodes.now in
    (terms_of ts (content_of ts c.args.table.now.entries) c.args.left c.args.right c.requires.sides (sym c.is_list_node.ensures ∙ c.if-is_list_node.false)).0

pub relate_terms-requires-clause-right : goal.relate_terms-requires-clause-right
relate_terms-requires-clause-right c =
    let ts = c.args.nodes.now in
    (terms_of ts (content_of ts c.args.table.now.entries) c.args.left c.args.right c.requires.sides (sym c.is_list_node.ensures ∙ c.if-is_list_node.false)).1

pub returns-clause-related : goal.returns-clause-related
returns-clause-related c =
    let ts = c.args.nodes.now in
    if_ok c.relate_terms.result _ _ (λ gs r. terms_sides (variances_in c.args.declarations.now) ts c.relate_terms.new.nodes c.args.table.now.entries c.relate_terms.new.table.entries c.args.variance _ c.args.left c.args.right gs.items (sym c.is_list_node.ensures ∙ c.if-is_list_node.false) c.variance_for-variance.ensures r) c.relate_terms.ensures.related

pub returns-clause-no : goal.returns-clause-no
returns-clause-no c = λ q.
    let ts = c.args.nodes.now in
    terms_refused (variances_in c.args.declarations.now) (content_of ts c.args.table.now.entries) c.args.variance _ (tree_at ts c.args.left) (tree_at ts c.args.right) (sym c.is_list_node.ensures ∙ c.if-is_list_node.false) c.variance_for-variance.ensures (c.relate_terms.ensures.no q)
