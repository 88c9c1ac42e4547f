use Rattle.nts_folding.proofs.Folded.{folds_in_vain, grown, on_same_err, walk_pair, stops_first, stops_second}
use Rattle.nts_folding.proofs.foldable.GoalTypeFoldable.fold_with.Goals as goal

pub returns-clause-walk : goal.returns-clause-walk
returns-clause-walk g c =
    let f = g.F.TypeFolder in
    let first = c.in_ok-param_env.ensures in
    let second = c.in_ok-predicate.ensures in
    let still = first.grows.extends.kept c.args.self.predicate.node c.requires.holds.1.within in
    let kept = second.grows.extends.kept c.in_ok-param_env.param_env.node first.holds.within in
    walk_pair f.answers f.enters f.leaves f.rebuilds still kept first.walk second.walk

pub returns-in_err-param_env : goal.returns-in_err-param_env
returns-in_err-param_env g c =
    let f = g.F.TypeFolder in
    folds_in_vain _ _ _ _ _ _ _ c.from_residual.result c.from_residual.ensures.1 c.fold_with.ensures.grows c.fold_with.ensures.ready c.fold_with.ensures.keeps
    (on_same_err _ _ _ c.from_residual.ensures.1 (stops_first f.answers f.enters f.leaves f.rebuilds f.fails c.in_err-param_env.ensures.err))

pub returns-in_err-predicate : goal.returns-in_err-predicate
returns-in_err-predicate g c =
    let f = g.F.TypeFolder in
    let first = c.in_ok-param_env.ensures in
    let still = first.grows.extends.kept c.args.self.predicate.node c.requires.holds.1.within in
    folds_in_vain _ _ _ _ _ _ _ c.from_residual-in_err-predicate.result c.from_residual-in_err-predicate.ensures.1 (grown c.fold_with.ensures.grows c.fold_with-2.ensures.grows) c.fold_with-2.ensures.ready (g.met.F.TypeFolder.keeps_trans _ _ _ c.fold_with.ensures.keeps c.fold_with-2.ensures.keeps)
    (on_same_err _ _ _ c.from_residual-in_err-predicate.ensures.1 (stops_second f.answers f.enters f.leaves f.rebuilds f.fails still first.walk c.in_err-predicate.ensures.err))

pub returns-clause-grows : goal.returns-clause-grows
returns-clause-grows g c = grown c.fold_with.ensures.grows c.fold_with-2.ensures.grows

pub returns-clause-keeps : goal.returns-clause-keeps
returns-clause-keeps g c = g.met.F.TypeFolder.keeps_trans _ _ _ c.fold_with.ensures.keeps c.fold_with-2.ensures.keeps
