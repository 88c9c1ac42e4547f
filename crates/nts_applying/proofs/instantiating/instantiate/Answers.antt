use Rattle.std.proofs.Common.{◌≡◌, Err, refl, sym, ap, subst, ◌∙◌, rules}
use Rattle.nts_model.specs.Terms.Substitutions.{filled}
use Rattle.nts_store.specs.declared.fault.EvalError.TheVariants.{NoSolution}
use Rattle.nts_store.specs.Filled.{HasValues}
use Rattle.nts_store.proofs.Growing.{Extends-trans}
use Rattle.nts_canonical.specs.Forms.{trees_of}
use Rattle.nts_applying.proofs.InstantiateSteps.{values_for, refused_state, instantiated_state}
use Rattle.nts_applying.proofs.Over.{has_values}
use Rattle.nts_applying.proofs.Stepping.{arg_later, step_grows, frame_of, frame_then, frame_grows}
use Rattle.nts_applying.proofs.instantiating.instantiate.Goals as goal

pub equated-requires-clause-fits : goal.equated-requires-clause-fits
equated-requires-clause-fits g c =
    rw (c.deref-2.ensures.value, c.deref-3.ensures.value, c.deref-4.ensures.value)
    (values_for c.args.cx.now c.with_missing.new.cx c.args.table.now c.with_missing.new.table c.args.orig_values.now c.in_ok-originals.originals.items c.args.state c.with_missing.ensures.keeps c.requires.originals c.requires.fits (rw c.deref.ensures.value at c.in_ok-originals.ensures.added))

pub returns-in_err-chosen-clause-no : goal.returns-in_err-chosen-clause-no
returns-in_err-chosen-clause-no g c = λ e.
    let same : c.equated.result ≡ Err NoSolution = search rules in
    refused_state c.args.cx.now c.with_missing.new.cx c.args.table.now c.with_missing.new.table c.args.orig_values.now c.in_ok-originals.originals.items c.args.state c.with_missing.ensures.keeps c.requires.originals c.requires.fits (rw c.deref.ensures.value at c.in_ok-originals.ensures.added)
    g.T.TypeFoldable.tree (rw (c.deref-2.ensures.value, c.deref-3.ensures.value, c.deref-4.ensures.value) at (c.equated.ensures.no same))

pub instantiate_canonical-requires-clause-positions :
    goal.instantiate_canonical-requires-clause-positions
instantiate_canonical-requires-clause-positions g c =
    let grew = c.with_missing.ensures.keeps.grows in
    let d = c.equated.new.cx.nodes in
    let xs = trees_of d c.in_ok-chosen.chosen.items in
    let kept = g.met.T.TypeFoldable.tree_kept c.args.cx.now.nodes d c.args.state.value.payload c.requires.payload (Extends-trans grew.extends c.equated.ensures.keeps.grows.extends) in
    rw c.deref-5.ensures.value (subst (HasValues xs) (sym kept) (has_values c.args.state.var_kinds.items xs (g.T.TypeFoldable.tree c.args.cx.now.nodes c.args.state.value.payload) (rw c.deref-3.ensures.value at c.in_ok-chosen.ensures.sorts) c.requires.positions))

pub returns-in_err-payload-clause-keeps : goal.returns-in_err-payload-clause-keeps
returns-in_err-payload-clause-keeps g c = frame_grows (frame_then (frame_of c.with_missing.ensures.keeps) c.equated.ensures.keeps) c.instantiate_canonical.ensures.grows

pub returns-clause-instantiated : goal.returns-clause-instantiated
returns-clause-instantiated g c =
    let a = c.args.cx.now.nodes in
    let d = c.equated.new.cx.nodes in
    let z = c.instantiate_canonical.new.cx.nodes in
    let tree = g.T.TypeFoldable.tree in
    let payload = c.args.state.value.payload in
    let xs = c.in_ok-chosen.chosen.items in
    let grew = c.with_missing.ensures.keeps.grows in
    let up = c.equated.ensures.keeps.grows.extends in
    let kept = g.met.T.TypeFoldable.tree_kept a d payload c.requires.payload (Extends-trans grew.extends up) in
    let is : tree z c.in_ok-payload.payload ≡ filled (trees_of d xs) (tree a payload) =
    c.in_ok-payload.ensures.tree ∙ ap (λ v. filled (trees_of d v) (tree d payload)) c.deref-5.ensures.value ∙ ap (filled (trees_of d xs)) kept in
    instantiated_state c.args.cx.now c.with_missing.new.cx c.args.table.now c.with_missing.new.table c.args.orig_values.now c.in_ok-originals.originals.items c.args.state c.with_missing.ensures.keeps c.requires.originals c.requires.fits (rw c.deref.ensures.value at c.in_ok-originals.ensures.added)
    tree d z c.equated.new.table xs c.in_ok-payload.payload up c.instantiate_canonical.ensures.grows.extends c.equated.ensures.keeps.table c.in_ok-chosen.ensures.hidden
    (rw (c.deref-2.ensures.value, c.deref-3.ensures.value, c.deref-4.ensures.value) at c.in_ok-chosen.ensures.equated) is

pub returns-clause-originals : goal.returns-clause-originals
returns-clause-originals g c =
    let args = rw c.deref-2.ensures.value at c.in_ok-chosen.ensures.originals in λ k d l.
    arg_later (step_grows c.equated.new.cx c.instantiate_canonical.new.cx c.equated.new.table c.equated.new.table c.equated.ensures.keeps.table c.instantiate_canonical.ensures.grows refl) (args k d l)

pub returns-clause-keeps : goal.returns-clause-keeps
returns-clause-keeps g c = frame_grows (frame_then (frame_of c.with_missing.ensures.keeps) c.equated.ensures.keeps) c.instantiate_canonical.ensures.grows
