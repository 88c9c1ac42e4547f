use Rattle.nts_canonical.specs.nts_folding.proofs.Folded.{on_same_err, walk_pair, stops_first, stops_second}
use Rattle.nts_response.specs.StateTrees.{values_same}
use Rattle.nts_response.proofs.types.StateTypeFoldable.fold_with.Goals as goal

pub returns-clause-walk : goal.returns-clause-walk
returns-clause-walk g c =
    let f = g.F.TypeFolder in
    let first = c.in_ok-var_values.ensures in
    let second = c.in_ok-payload.ensures in
    let still = g.met.T.TypeFoldable.tree_kept c.args.cx.now.nodes c.fold_with.new.cx.nodes c.args.self.payload c.requires.holds.1 first.grows.extends in
    let kept = values_same c.fold_with.new.cx.nodes c.fold_with-2.new.cx.nodes c.in_ok-var_values.var_values.items first.holds second.grows.extends in
    walk_pair f.answers f.enters f.leaves f.rebuilds still kept first.walk second.walk

pub returns-in_err-var_values-clause-err : goal.returns-in_err-var_values-clause-err
returns-in_err-var_values-clause-err g c =
    let f = g.F.TypeFolder in
    on_same_err _ _ _ c.from_residual.ensures.1 (stops_first f.answers f.enters f.leaves f.rebuilds f.fails c.in_err-var_values.ensures.err)

pub returns-in_err-payload-clause-err : goal.returns-in_err-payload-clause-err
returns-in_err-payload-clause-err g c =
    let f = g.F.TypeFolder in
    let first = c.in_ok-var_values.ensures in
    let still = g.met.T.TypeFoldable.tree_kept c.args.cx.now.nodes c.fold_with.new.cx.nodes c.args.self.payload c.requires.holds.1 first.grows.extends in
    on_same_err _ _ _ c.from_residual-in_err-payload.ensures.1 (stops_second f.answers f.enters f.leaves f.rebuilds f.fails still first.walk c.in_err-payload.ensures.err)
