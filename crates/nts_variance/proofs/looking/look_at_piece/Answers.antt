use Rattle.std.proofs.Common.{◌≡◌, ⊎_elim, true, refl, sym, ap, ◌∙◌}
use Rattle.nts_model.specs.Terms.Trees.{any_label, is_infer}
use Rattle.nts_store.specs.Growth.{tree_at}
use Rattle.nts_unify.specs.Reading.{content_of}
use Rattle.nts_variance.proofs.Pieces.{plain_alone}
use Rattle.nts_variance.proofs.Looks.{looked_within, looked_value, looked_unset, infer_parts, made_again, plain_label, from_not_true, from_not_false}
use Rattle.nts_variance.proofs.looking.look_at_piece.Goals.{then-spot-via-then-spot, then-spot-via-else-spot+then-not-flags}
use Rattle.nts_variance.proofs.looking.look_at_piece.Goals as goal

pub look_at_value-requires-clause-resolved : goal.look_at_value-requires-clause-resolved
look_at_value-requires-clause-resolved c = λ loud. elim c.then-spot.branch [
  | then-spot-via-then-spot w ↦ (let h = w.if-spot.true in cc)
  | then-spot-via-else-spot+then-not-flags w ↦ plain_alone (content_of c.args.nodes.now c.args.table.now.entries) (tree_at c.args.nodes.now c.args.spot.term) (ap (λ f. f.has_infer) (sym c.requires.flags) ∙ from_not_true c.args.flags.has_infer w.if-not-flags.true) c.requires.plain
]

pub probe_variable-requires-clause-within : goal.probe_variable-requires-clause-within
probe_variable-requires-clause-within c = looked_within c.args.nodes.now c.args.table.now.entries (tree_at c.args.nodes.now c.args.spot.term) c.args.label c.in-Some.n c.requires.part.knows c.requires.label (sym c.in-Some.ensures)

pub returns-in-Ok-clause-look : goal.returns-in-Ok-clause-look
returns-in-Ok-clause-look c = λ declared gs.
    let k = looked_value c.args.nodes.now c.args.table.now.entries (tree_at c.args.nodes.now c.args.spot.term) c.args.label c.in-Some.n _ c.in-Ok.value c.requires.lawful c.requires.part.knows c.requires.label (sym c.in-Some.ensures) c.in-Ok.ensures.value.1 in
    let some : any_label is_infer (tree_at c.args.nodes.now c.args.spot.term) ≡ true = ap (λ f. f.has_infer) (sym c.requires.flags) ∙ from_not_false c.args.flags.has_infer c.if-not-flags.false in
    let alone = ⊎_elim (λ h. h) (λ f. absurd (let none = f.no_infer in cc)) c.requires.alone in
    (refl, refl, refl, k.0, k.1, alone)

pub look_at_value-requires-in-Some-clause-resolved : goal.look_at_value-requires-in-Some-clause-resolved
look_at_value-requires-in-Some-clause-resolved c = λ loud.
    looked_unset c.args.nodes.now c.args.table.now.entries (tree_at c.args.nodes.now c.args.spot.term) c.args.label c.in-Some.n _ c.requires.lawful c.requires.part.knows c.requires.label c.requires.formed (sym c.in-Some.ensures) c.in_default-probe_variable.ensures.root

pub returns-clause-look : goal.returns-clause-look
returns-clause-look c = λ declared gs.
    let t = tree_at c.args.nodes.now c.args.spot.term in
    let some : any_label is_infer t ≡ true = ap (λ f. f.has_infer) (sym c.requires.flags) ∙ from_not_false c.args.flags.has_infer c.if-not-flags.false in
    let parts = infer_parts t c.args.label c.requires.part.sort c.requires.label c.requires.formed c.requires.part.kind some (sym c.in_default.ensures) in
    (refl, refl, refl, made_again t c.args.label c.requires.label c.requires.formed parts (plain_label t c.args.label c.requires.label c.requires.plain _))
