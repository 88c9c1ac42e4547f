use Rattle.nts_model.specs.Terms.Trees.{environment, bound_predicate, is}
use Rattle.nts_folding.specs.FoldLaws.{Holds-kept, same_pair}
use Rattle.nts_folding.proofs.Folded.{on_same_err, walk_pair, stops_first, stops_second}
use Rattle.nts_canonical.specs.Folds.{AreHidden-kept, tree_of_hidden-kept}
use Rattle.nts_canonical.proofs.FoldedQueries.{are_held, hidden_held}
use Rattle.nts_canonical.proofs.types.QueryInputTypeFoldable.fold_with.Goals as goal

pub fold_with-requires-2-clause-holds : goal.fold_with-requires-2-clause-holds
fold_with-requires-2-clause-holds g c =
    are_held _ _ (AreHidden-kept c.args.cx.now.nodes c.fold_with.new.cx.nodes c.args.self.predefined_opaques_in_body.items c.requires.holds.hidden c.in_ok-goal.ensures.grows.extends)

pub returns-clause-holds : goal.returns-clause-holds
returns-clause-holds g c =
    let f = g.F.TypeFolder in
    let first = c.in_ok-goal.ensures in
    let second = c.in_ok-predefined_opaques_in_body.ensures in
    record {
      environment = Holds-kept (is environment) _ _ c.in_ok-goal.goal.param_env.node first.holds.0 second.grows.extends;
      predicate = Holds-kept (is bound_predicate) _ _ c.in_ok-goal.goal.predicate.node first.holds.1 second.grows.extends;
      hidden = hidden_held f.answers f.enters f.leaves f.rebuilds c.args.cx.now.nodes c.fold_with.new.cx.nodes c.fold_with-2.new.cx.nodes c.args.self.predefined_opaques_in_body.items c.in_ok-predefined_opaques_in_body.predefined_opaques_in_body.items _ _ second.walk c.requires.holds.hidden second.holds;
    }

pub returns-clause-walk : goal.returns-clause-walk
returns-clause-walk g c =
    let f = g.F.TypeFolder in
    let first = c.in_ok-goal.ensures in
    let second = c.in_ok-predefined_opaques_in_body.ensures in
    let still = tree_of_hidden-kept c.args.cx.now.nodes c.fold_with.new.cx.nodes c.args.self.predefined_opaques_in_body.items c.requires.holds.hidden first.grows.extends in
    let kept = same_pair (second.grows.extends.kept c.in_ok-goal.goal.param_env.node first.holds.0.within) (second.grows.extends.kept c.in_ok-goal.goal.predicate.node first.holds.1.within) in
    walk_pair f.answers f.enters f.leaves f.rebuilds still kept first.walk second.walk

pub returns-in_err-goal-clause-err : goal.returns-in_err-goal-clause-err
returns-in_err-goal-clause-err g c =
    let f = g.F.TypeFolder in
    on_same_err _ _ _ c.from_residual.ensures.1 (stops_first f.answers f.enters f.leaves f.rebuilds f.fails c.in_err-goal.ensures.err)

pub returns-in_err-predefined_opaques_in_body-clause-err : goal.returns-in_err-predefined_opaques_in_body-clause-err
returns-in_err-predefined_opaques_in_body-clause-err g c =
    let f = g.F.TypeFolder in
    let first = c.in_ok-goal.ensures in
    let still = tree_of_hidden-kept c.args.cx.now.nodes c.fold_with.new.cx.nodes c.args.self.predefined_opaques_in_body.items c.requires.holds.hidden first.grows.extends in
    on_same_err _ _ _ c.from_residual-in_err-predefined_opaques_in_body.ensures.1 (stops_second f.answers f.enters f.leaves f.rebuilds f.fails still first.walk c.in_err-predefined_opaques_in_body.ensures.err)
