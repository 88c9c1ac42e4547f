use Rattle.std.proofs.Common.{◌≡◌, ◌<◌, sym, ap, ◌∙◌, ◌++◌, ◌∷◌, [], arith}
use Rattle.nts_model.specs.Terms.Trees.{children, row_length}
use Rattle.nts_store.specs.Growth.{tree_at}
use Rattle.nts_assembly.proofs.RowOffers.{sorts_more, sorts_all}
use Rattle.nts_assembly.proofs.assumptions.sorts_of.Goals as goal

pub loop-i-preserved : goal.loop-i-preserved
loop-i-preserved c =
    let here : c.loop-i.i < row_length (children (tree_at c.args.cx.now.nodes c.args.vars.node)) = omega (arith, c.len-i-end.ensures.count, c.loop-i-test.true) in
    c.in_ok-push.ensures.items ∙ ap (λ x. x ++ c.get.result ∷ []) c.loop-i.invariant ∙ sym (sorts_more c.loop-i.i _ c.get.result here c.get.ensures)

pub returns : goal.returns
returns c =
    let all : c.loop-i.i ≡ row_length (children (tree_at c.args.cx.now.nodes c.args.vars.node)) = omega (arith, c.len-i-end.ensures.count, c.loop-i-test.false, c.loop-i.auto.i-end) in
    c.loop-i.invariant ∙ sorts_all c.loop-i.i _ c.len-i-end.ensures.row all
