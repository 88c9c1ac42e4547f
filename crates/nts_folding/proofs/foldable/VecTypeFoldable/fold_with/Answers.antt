use Rattle.std.proofs.Common.{◌≡◌, ◌∷◌, length, ap, arith}
use Rattle.std.specs.Vec.Iter.{into_iter_items}
use Rattle.nts_terms.specs.nts_store.proofs.Growing.{Extends-trans}
use Rattle.nts_terms.proofs.Moved.{KeepsRest-refl, KeepsRest-trans}
use Rattle.nts_folding.specs.Folding.{anywhere}
use Rattle.nts_folding.proofs.Folded.{folds_in_vain, on_err, on_same_err}
use Rattle.nts_folding.proofs.FoldedList.{list_start, left_holds, list_more, list_stops}
use Rattle.nts_folding.proofs.foldable.VecTypeFoldable.fold_with.Goals as goal

pub loop-x-init : goal.loop-x-init
loop-x-init g c =
    let f = g.F.TypeFolder in
    let t = g.T.TypeFoldable in
    let given = c.into_iter-x-iterator.ensures.into_iter_gives in
    let long = ap length given.0 in
    record {
      list = list_start f.answers f.enters f.leaves f.rebuilds t.holds t.tree _ c.args.cx.now.nodes _ _ _ given.0 c.new-folded.ensures.items;
      rest = KeepsRest-refl c.args.cx.now;
      ready = c.requires.ready;
      keeps = g.met.F.TypeFolder.keeps_refl _;
      count = omega (arith, given.1, long);
    }

pub fold_with-requires-clause-holds : goal.fold_with-requires-clause-holds
fold_with-requires-clause-holds g c =
    let f = g.F.TypeFolder in
    let t = g.T.TypeFoldable in
    (left_holds f.answers f.enters f.leaves f.rebuilds t.holds t.tree g.met.T.TypeFoldable.holds_kept _ _ _ _ _ _ _ _ _ c.in-Some.x c.loop-x.invariant.list c.requires.holds c.in-Some.ensures.steps.0).now

pub loop-x-preserved : goal.loop-x-preserved
loop-x-preserved g c =
    let f = g.F.TypeFolder in
    let t = g.T.TypeFoldable in
    let now = c.in_ok-value.ensures in
    let steps : into_iter_items c.loop-x.x-iterator ≡ c.in-Some.x ∷ into_iter_items c.next.new.self = c.in-Some.ensures.steps.0 in
    let gone = c.in-Some.ensures.steps.1 in
    let short = ap length steps in
    record {
      list = list_more f.answers f.enters f.leaves f.rebuilds t.holds t.tree g.met.T.TypeFoldable.holds_kept g.met.T.TypeFoldable.tree_kept _ _ _ _ _ _ _ _ _ _ _ _ c.in-Some.x c.in_ok-value.value c.loop-x.invariant.list c.requires.holds steps now.grows.extends now.holds now.walk c.in_ok-push.ensures;
      rest = KeepsRest-trans c.loop-x.invariant.rest now.grows.rest;
      ready = now.ready;
      keeps = g.met.F.TypeFolder.keeps_trans _ _ _ c.loop-x.invariant.keeps now.keeps;
      count = omega (arith, c.loop-x.invariant.count, gone, short);
    }

pub returns-in_err-value : goal.returns-in_err-value
returns-in_err-value g c =
    let f = g.F.TypeFolder in
    let t = g.T.TypeFoldable in
    let steps : into_iter_items c.loop-x.x-iterator ≡ c.in-Some.x ∷ into_iter_items c.next.new.self = c.in-Some.ensures.steps.0 in
    folds_in_vain _ _ _ _ _ _ _ c.from_residual.result c.from_residual.ensures.1 (record { extends = Extends-trans c.loop-x.invariant.list.extends c.fold_with.ensures.grows.extends; rest = KeepsRest-trans c.loop-x.invariant.rest c.fold_with.ensures.grows.rest }) c.fold_with.ensures.ready (g.met.F.TypeFolder.keeps_trans _ _ _ c.loop-x.invariant.keeps c.fold_with.ensures.keeps)
    (on_same_err _ _ _ c.from_residual.ensures.1 (list_stops f.answers f.enters f.leaves f.rebuilds t.holds t.tree f.fails g.met.T.TypeFoldable.holds_kept g.met.T.TypeFoldable.tree_kept _ _ _ _ _ _ _ _ _ c.in-Some.x _ c.loop-x.invariant.list c.requires.holds steps c.in_err-value.ensures.err))

pub returns-in_err-push : goal.returns-in_err-push
returns-in_err-push g c =
    folds_in_vain _ _ _ _ _ _ _ c.from_residual-in_err-push.result c.from_residual-in_err-push.ensures.1 (record { extends = Extends-trans c.loop-x.invariant.list.extends c.fold_with.ensures.grows.extends; rest = KeepsRest-trans c.loop-x.invariant.rest c.fold_with.ensures.grows.rest }) c.fold_with.ensures.ready (g.met.F.TypeFolder.keeps_trans _ _ _ c.loop-x.invariant.keeps c.fold_with.ensures.keeps)
    (on_err _ _ _ c.from_residual-in_err-push.ensures.1 (λ e h. anywhere (λ t. g.met.F.TypeFolder.memory_fails t e h)))
