use Rattle.nts_folding.proofs.Folded.{folds_in_vain, grown, on_same_err, walk_pair, stops_first, stops_second}
use Rattle.nts_folding.proofs.foldable.Tuple2TypeFoldable.fold_with.Goals as goal

pub returns-clause-walk : goal.returns-clause-walk
returns-clause-walk g c =
    let f = g.F.TypeFolder in
    let first = c.in_ok-first.ensures in
    let second = c.in_ok-second.ensures in
    let still = g.met.B.TypeFoldable.tree_kept c.args.cx.now.nodes c.fold_with.new.cx.nodes c.args.self.1 c.requires.holds.1 first.grows.extends in
    let kept = g.met.A.TypeFoldable.tree_kept c.fold_with.new.cx.nodes c.fold_with-2.new.cx.nodes c.in_ok-first.first first.holds second.grows.extends in
    walk_pair f.answers f.enters f.leaves f.rebuilds still kept first.walk second.walk

pub returns-in_err-first : goal.returns-in_err-first
returns-in_err-first g c =
    let f = g.F.TypeFolder in
    folds_in_vain _ _ _ _ _ _ _ c.from_residual.result c.from_residual.ensures.1 c.fold_with.ensures.grows c.fold_with.ensures.ready c.fold_with.ensures.keeps
    (on_same_err _ _ _ c.from_residual.ensures.1 (stops_first f.answers f.enters f.leaves f.rebuilds f.fails c.in_err-first.ensures.err))

pub returns-in_err-second : goal.returns-in_err-second
returns-in_err-second g c =
    let f = g.F.TypeFolder in
    let first = c.in_ok-first.ensures in
    let still = g.met.B.TypeFoldable.tree_kept c.args.cx.now.nodes c.fold_with.new.cx.nodes c.args.self.1 c.requires.holds.1 first.grows.extends in
    folds_in_vain _ _ _ _ _ _ _ c.from_residual-in_err-second.result c.from_residual-in_err-second.ensures.1 (grown c.fold_with.ensures.grows c.fold_with-2.ensures.grows) c.fold_with-2.ensures.ready (g.met.F.TypeFolder.keeps_trans _ _ _ c.fold_with.ensures.keeps c.fold_with-2.ensures.keeps)
    (on_same_err _ _ _ c.from_residual-in_err-second.ensures.1 (stops_second f.answers f.enters f.leaves f.rebuilds f.fails still first.walk c.in_err-second.ensures.err))

pub returns-clause-grows : goal.returns-clause-grows
returns-clause-grows g c = grown c.fold_with.ensures.grows c.fold_with-2.ensures.grows

pub returns-clause-keeps : goal.returns-clause-keeps
returns-clause-keeps g c = g.met.F.TypeFolder.keeps_trans _ _ _ c.fold_with.ensures.keeps c.fold_with-2.ensures.keeps
