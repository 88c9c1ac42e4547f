use Rattle.nts_folding.proofs.Folded.{asks_in_vain}
use Rattle.nts_folding.proofs.fold.ask.Goals as goal

pub returns-in_err-fold_ty-in-Some-Ty : goal.returns-in_err-fold_ty-in-Some-Ty
returns-in_err-fold_ty-in-Some-Ty g c =
    let f = c.fold_ty.ensures in
    asks_in_vain _ _ _ _ _ _ _ c.from_residual.result _ c.from_residual.ensures.1 f.grows f.ready f.keeps c.in_err-fold_ty-in-Some-Ty.ensures.err

pub returns-in_err-fold_region-in-Some-Region : goal.returns-in_err-fold_region-in-Some-Region
returns-in_err-fold_region-in-Some-Region g c =
    let f = c.fold_region.ensures in
    asks_in_vain _ _ _ _ _ _ _ c.from_residual-in_err-fold_region-in-Some-Region.result _ c.from_residual-in_err-fold_region-in-Some-Region.ensures.1 f.grows f.ready f.keeps c.in_err-fold_region-in-Some-Region.ensures.err

pub returns-in_err-fold_const-in-Some-Const : goal.returns-in_err-fold_const-in-Some-Const
returns-in_err-fold_const-in-Some-Const g c =
    let f = c.fold_const.ensures in
    asks_in_vain _ _ _ _ _ _ _ c.from_residual-in_err-fold_const-in-Some-Const.result _ c.from_residual-in_err-fold_const-in-Some-Const.ensures.1 f.grows f.ready f.keeps c.in_err-fold_const-in-Some-Const.ensures.err

pub returns-in_err-fold_predicate-in-None : goal.returns-in_err-fold_predicate-in-None
returns-in_err-fold_predicate-in-None g c =
    let f = c.fold_predicate.ensures in
    asks_in_vain _ _ _ _ _ _ _ c.from_residual-in_err-fold_predicate-in-None.result _ c.from_residual-in_err-fold_predicate-in-None.ensures.1 f.grows f.ready f.keeps c.in_err-fold_predicate-in-None.ensures.err
