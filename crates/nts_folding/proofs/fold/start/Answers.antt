use Rattle.nts_terms.specs.nts_store.specs.Growth.{tree_at}
use Rattle.nts_folding.proofs.Folded.{on_same_err, none_of, stops_term, stops_enter}
use Rattle.nts_folding.proofs.fold.start.Goals as goal

pub returns-in_err-answer-clause-err : goal.returns-in_err-answer-clause-err
returns-in_err-answer-clause-err g c =
    let f = g.F.TypeFolder in
    on_same_err _ _ _ c.from_residual.ensures.1 (stops_term f.answers f.enters f.leaves f.rebuilds f.fails (tree_at c.args.cx.now.nodes c.args.t) c.label-label.result _ _ c.label-label.ensures.is c.in_err-answer.ensures.err)

pub returns-in_err-enter-clause-err : goal.returns-in_err-enter-clause-err
returns-in_err-enter-clause-err g c =
    let f = g.F.TypeFolder in
    let none = none_of c.in_ok-answer.answer _ c.is_none.ensures c.if-is_none.true in
    let asks = rw none at c.in_ok-answer.ensures.asks in
    on_same_err _ _ _ c.from_residual-in_err-enter.ensures.1 (stops_enter f.answers f.enters f.leaves f.rebuilds f.fails (tree_at c.args.cx.now.nodes c.args.t) c.label-label.result _ _ _ c.label-label.ensures.is c.label-label.ensures.formed asks (c.in_err-enter.ensures.err _ c.ask.ensures.ready))
