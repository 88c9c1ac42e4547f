use Rattle.nts_folding.proofs.Folded.{on_same_err, walk_statement, stops_statement}
use Rattle.nts_folding.proofs.foldable.AliasTermTypeFoldable.fold_with.Goals as goal

pub returns-clause-walk : goal.returns-clause-walk
returns-clause-walk g c = let f = g.F.TypeFolder in walk_statement f.answers f.enters f.leaves f.rebuilds c.in_ok-args.ensures.walk

pub returns-in_err-args-clause-err : goal.returns-in_err-args-clause-err
returns-in_err-args-clause-err g c =
    let f = g.F.TypeFolder in
    on_same_err _ _ _ c.from_residual.ensures.1 (stops_statement f.answers f.enters f.leaves f.rebuilds f.fails c.in_err-args.ensures.err)
