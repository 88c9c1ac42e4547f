use Rattle.std.proofs.Common.{get_or, List, subst, arith}
use Rattle.std.proofs.lemmas.Option.{slice_get-get_or}
use Rattle.nts_model.specs.declared.labels.Sort.TheVariants as sort
use Rattle.nts_placeholder.specs.declared.escaping.Escaping.{Escaping}
use Rattle.nts_placeholder.specs.Closing.{mapped}
use Rattle.nts_placeholder.specs.Escaping.{is_among}
use Rattle.nts_placeholder.specs.Opening.{AreMapsOf}
use Rattle.nts_placeholder.proofs.Reaching.{among-at, take-all}
use Rattle.nts_placeholder.proofs.Mapping.{maps_more}
use Rattle.nts_placeholder.proofs.opening.maps_of.Goals as goal

pub overflow_sub-universes : goal.overflow_sub-universes
overflow_sub-universes c =
    let x = get_or c.args.found.now c.loop-i.i (record { sort = sort.Ty; bound = record { level = 0; var = 0 } }) in
    let here = slice_get-get_or c.args.found.now c.loop-i.i (record { sort = sort.Ty; bound = record { level = 0; var = 0 } }) c.loop-i-test.true in
    omega (arith, c.requires x.sort x.bound (among-at c.args.found.now c.loop-i.i x here))

pub overflow_sub-universes-in-loop-i : goal.overflow_sub-universes-in-loop-i
overflow_sub-universes-in-loop-i c =
    let x = get_or c.args.found.now c.loop-i.i (record { sort = sort.Ty; bound = record { level = 0; var = 0 } }) in
    let here = slice_get-get_or c.args.found.now c.loop-i.i (record { sort = sort.Ty; bound = record { level = 0; var = 0 } }) c.loop-i-test.true in
    omega (arith, c.requires x.sort x.bound (among-at c.args.found.now c.loop-i.i x here))

pub universe_of_entry-universe-requires : goal.universe_of_entry-universe-requires
universe_of_entry-universe-requires c =
    let x = get_or c.args.found.now c.loop-i.i (record { sort = sort.Ty; bound = record { level = 0; var = 0 } }) in
    let here = slice_get-get_or c.args.found.now c.loop-i.i (record { sort = sort.Ty; bound = record { level = 0; var = 0 } }) c.loop-i-test.true in
    omega (arith, c.requires x.sort x.bound (among-at c.args.found.now c.loop-i.i x here))

pub loop-i-preserved : goal.loop-i-preserved
loop-i-preserved c =
    let xs = c.args.found.now in
    let x = get_or xs c.loop-i.i (record { sort = sort.Ty; bound = record { level = 0; var = 0 } }) in
    let here = slice_get-get_or xs c.loop-i.i (record { sort = sort.Ty; bound = record { level = 0; var = 0 } }) c.loop-i-test.true in
    maps_more c.args.universes.now xs c.loop-i.i x (mapped c.loop-i.maps) _ _ here (λ j. record { universe = c.universe_of_entry-universe.ensures j; var = x.bound.var }) c.in_ok-insert.ensures.own c.in_ok-insert.ensures.others c.loop-i.invariant

pub returns : goal.returns
returns c =
    let all = take-all c.args.found.now c.loop-i.i c.loop-i-test.false in
    subst (λ (zs : List Escaping). AreMapsOf c.args.universes.now (is_among zs) (mapped c.loop-i.maps)) all c.loop-i.invariant
