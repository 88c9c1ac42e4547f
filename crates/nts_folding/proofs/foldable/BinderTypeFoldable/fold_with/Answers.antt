use Rattle.nts_folding.proofs.Folded.{folds_in_vain, grown, on_same_err, walk_binder, stops_entering, stops_sorts, stops_value}
use Rattle.nts_folding.proofs.foldable.BinderTypeFoldable.fold_with.Goals as goal

pub returns-clause-walk : goal.returns-clause-walk
returns-clause-walk g c =
    let f = g.F.TypeFolder in
    let first = c.in_ok-vars.ensures in
    let second = c.in_ok-value.ensures in
    let still = g.met.T.TypeFoldable.tree_kept c.args.cx.now.nodes c.fold_with.new.cx.nodes c.args.self.value c.requires.holds.1 first.grows.extends in
    let kept = second.grows.extends.kept c.in_ok-vars.vars.node first.holds.within in
    walk_binder f.answers f.enters f.leaves f.rebuilds still kept (c.in_ok-enter_binder.ensures.enters _ c.requires.ready) first.walk second.walk (c.leave_binder.ensures.leaves _ second.ready)

pub returns-in_err-enter_binder-clause-err : goal.returns-in_err-enter_binder-clause-err
returns-in_err-enter_binder-clause-err g c =
    let f = g.F.TypeFolder in
    on_same_err _ _ _ c.from_residual.ensures.1 (stops_entering f.answers f.enters f.leaves f.rebuilds f.fails (c.in_err-enter_binder.ensures.err _ c.requires.ready))

pub returns-in_err-vars : goal.returns-in_err-vars
returns-in_err-vars g c =
    let f = g.F.TypeFolder in
    folds_in_vain _ _ _ _ _ _ _ c.from_residual-in_err-vars.result c.from_residual-in_err-vars.ensures.1 c.fold_with.ensures.grows c.fold_with.ensures.ready (g.met.F.TypeFolder.keeps_trans _ _ _ c.enter_binder.ensures.keeps c.fold_with.ensures.keeps)
    (on_same_err _ _ _ c.from_residual-in_err-vars.ensures.1 (stops_sorts f.answers f.enters f.leaves f.rebuilds f.fails (c.in_ok-enter_binder.ensures.enters _ c.requires.ready) c.in_err-vars.ensures.err))

pub returns-in_err-value : goal.returns-in_err-value
returns-in_err-value g c =
    let f = g.F.TypeFolder in
    let first = c.in_ok-vars.ensures in
    let still = g.met.T.TypeFoldable.tree_kept c.args.cx.now.nodes c.fold_with.new.cx.nodes c.args.self.value c.requires.holds.1 first.grows.extends in
    folds_in_vain _ _ _ _ _ _ _ c.from_residual-in_err-value.result c.from_residual-in_err-value.ensures.1 (grown c.fold_with.ensures.grows c.fold_with-2.ensures.grows) c.fold_with-2.ensures.ready (g.met.F.TypeFolder.keeps_trans _ _ _ c.enter_binder.ensures.keeps (g.met.F.TypeFolder.keeps_trans _ _ _ c.fold_with.ensures.keeps c.fold_with-2.ensures.keeps))
    (on_same_err _ _ _ c.from_residual-in_err-value.ensures.1 (stops_value f.answers f.enters f.leaves f.rebuilds f.fails still (c.in_ok-enter_binder.ensures.enters _ c.requires.ready) first.walk c.in_err-value.ensures.err))

pub returns-clause-grows : goal.returns-clause-grows
returns-clause-grows g c = grown c.fold_with.ensures.grows c.fold_with-2.ensures.grows

pub returns-clause-keeps : goal.returns-clause-keeps
returns-clause-keeps g c =
    let k = g.met.F.TypeFolder.keeps_trans _ _ _ c.enter_binder.ensures.keeps (g.met.F.TypeFolder.keeps_trans _ _ _ c.fold_with.ensures.keeps c.fold_with-2.ensures.keeps) in
    g.met.F.TypeFolder.keeps_trans _ _ _ k c.leave_binder.ensures.keeps
