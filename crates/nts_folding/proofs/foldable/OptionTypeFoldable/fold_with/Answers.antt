use Rattle.nts_folding.specs.Folding.{done}
use Rattle.nts_folding.proofs.Folded.{on_same_err, walk_some, stops_some}
use Rattle.nts_folding.proofs.foldable.OptionTypeFoldable.fold_with.Goals as goal

pub returns-in_ok-fold_with-in-Some-clause-walk : goal.returns-in_ok-fold_with-in-Some-clause-walk
returns-in_ok-fold_with-in-Some-clause-walk g c =
    let f = g.F.TypeFolder in
    rw c.in-Some.is (walk_some f.answers f.enters f.leaves f.rebuilds c.in_ok-fold_with-in-Some.ensures.walk)

pub returns-in-None-clause-walk : goal.returns-in-None-clause-walk
returns-in-None-clause-walk g c = rw c.in-None.is done

pub returns-in_err-fold_with-in-Some-clause-err : goal.returns-in_err-fold_with-in-Some-clause-err
returns-in_err-fold_with-in-Some-clause-err g c =
    let f = g.F.TypeFolder in
    on_same_err _ _ _ c.from_residual.ensures.1 (rw c.in-Some.is (stops_some f.answers f.enters f.leaves f.rebuilds f.fails c.in_err-fold_with-in-Some.ensures.err))
