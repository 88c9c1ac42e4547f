use Rattle.std.proofs.Common.{sym, ap, ◌∙◌}
use Rattle.nts_model.specs.Terms.Trees.{children, row_length}
use Rattle.nts_store.specs.Growth.{tree_at}
use Rattle.nts_assembly.specs.Assuming.{positioned_row}
use Rattle.nts_assembly.proofs.RowOffers.{row_length_positioned, positioned_args}
use Rattle.nts_assembly.proofs.assumptions.offer_of_row.Goals as goal

pub pairs_of-requires-clause-row : goal.pairs_of-requires-clause-row
pairs_of-requires-clause-row c =
    let holds = c.in-Some.ensures.holds c.args.cx.now.nodes c.kind-said.ensures.fits.1 in
    let is = positioned_args c.args.cx.now.nodes c.position_args.new.cx.nodes c.in-Some.of.args.node c.in_ok-head.head.node holds.fits c.in_ok-head.ensures.tree in
    rw is (positioned_row 0 (children (tree_at c.args.cx.now.nodes c.in-Some.of.args.node)) (c.takes.ensures.row c.if-not-takes.false))

pub pairs_of-requires-clause-long : goal.pairs_of-requires-clause-long
pairs_of-requires-clause-long c =
    let holds = c.in-Some.ensures.holds c.args.cx.now.nodes c.kind-said.ensures.fits.1 in
    let is = positioned_args c.args.cx.now.nodes c.position_args.new.cx.nodes c.in-Some.of.args.node c.in_ok-head.head.node holds.fits c.in_ok-head.ensures.tree in
    let args = c.in_ok-head.ensures.grows.extends.kept c.args.asked.args.node c.requires.args.within in
    ap (λ t. row_length (children t)) args ∙ c.takes.ensures.long c.if-not-takes.false ∙ sym (row_length_positioned 0 (children (tree_at c.args.cx.now.nodes c.in-Some.of.args.node)) (c.takes.ensures.row c.if-not-takes.false)) ∙ sym (ap row_length is)
