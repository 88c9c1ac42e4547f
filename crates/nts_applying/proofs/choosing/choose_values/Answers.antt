use Rattle.std.proofs.Common.{◌≡◌, ◌<◌, length, arith, sym, ap, subst, ◌∙◌, Some}
use Rattle.std.specs.Prelude.{get_or, IsErrAnd}
use Rattle.std.proofs.lemmas.List.{take_all}
use Rattle.std.proofs.lemmas.Option.{slice_get-get_or}
use Rattle.nts_canonical.specs.declared.types.CanonicalVarKind.TheVariants as var
use Rattle.nts_canonical.specs.Forms.{kind_of_var, trees_of}
use Rattle.nts_response.specs.Applied.{NamesOriginal}
use Rattle.nts_applying.proofs.Stepping.{step_none, step_then}
use Rattle.nts_applying.proofs.MadeValues.{IsChoice, original_arg, originals_kept, guess_choice, made_choice, one_chosen, none_chosen, chooses_none}
use Rattle.nts_applying.proofs.choosing.choose_values.Goals.{in-Some, in-None+in_ok-value-in-None}
use Rattle.nts_applying.proofs.choosing.choose_values.Goals as goal

pub choose_value-requires-clause-originals : goal.choose_value-requires-clause-originals
choose_value-requires-clause-originals c = λ j d m.
    (let l = (c.requires.kinds c.loop-i.i (var.Ty 0 0) c.loop-i-test.true).universe in
    original_arg c.args.cx.now c.loop-i.cx c.args.table.now c.loop-i.table c.args.universe _ (omega (arith, l)) c.loop-i.invariant.keeps (c.requires.originals j d m))

pub choose_value-requires-clause-kind : goal.choose_value-requires-clause-kind
choose_value-requires-clause-kind c =
    let k = c.requires.kinds c.loop-i.i (var.Ty 0 0) c.loop-i-test.true in
    let s = c.loop-i.invariant.keeps in
    let same = originals_kept c.args.cx.now c.loop-i.cx c.args.table.now c.loop-i.table _ c.args.originals.now s c.requires.originals in
    let l = k.universe in
    let e = s.universe in
    record { universe = omega (arith, l, e); original = subst (λ os. NamesOriginal os (kind_of_var (get_or c.args.kinds.now c.loop-i.i (var.Ty 0 0)))) (sym same) k.original }

pub returns-in_err-push-clause-keeps : goal.returns-in_err-push-clause-keeps
returns-in_err-push-clause-keeps c =
    elim c.match-index.branch [
      | in-Some w ↦ rw (w.cx-is, w.table-is) c.loop-i.invariant.keeps
      | in-None+in_ok-value-in-None w ↦ rw (w.cx-is, w.table-is) (step_then c.loop-i.invariant.keeps w.choose_value.ensures.keeps)
    ]

pub loop-i-init : goal.loop-i-init
loop-i-init c = rw c.in_ok-chosen.ensures.items (none_chosen c.args.cx.now c.args.table.now c.args.universe (trees_of c.args.cx.now.nodes c.args.values.now) (trees_of c.args.cx.now.nodes c.args.originals.now) c.requires.table)

choice : (c : goal.In_ok-push) → IsChoice c.args.cx.now c.loop-i.cx c.match-index.cx c.args.table.now c.loop-i.table c.match-index.table c.args.universe (trees_of c.args.cx.now.nodes c.args.values.now) (trees_of c.args.cx.now.nodes c.args.originals.now) (trees_of c.loop-i.cx.nodes c.loop-i.chosen.items) c.loop-i.i (get_or c.args.kinds.now c.loop-i.i (var.Ty 0 0)) c.match-index.value
choice c =
    let l = (c.requires.kinds c.loop-i.i (var.Ty 0 0) c.loop-i-test.true).universe in
    let at = slice_get-get_or c.args.kinds.now c.loop-i.i (var.Ty 0 0) c.loop-i-test.true in
    let g = c.in_ok-guessed.ensures in
    let s = c.loop-i.invariant.keeps in
    elim c.match-index.branch [
      | in-Some w ↦ (let below : c.loop-i.i < length c.in_ok-guessed.guessed.items = omega (arith, c.loop-i-test.true, g.long) in
          let found = slice_get-get_or c.in_ok-guessed.guessed.items c.loop-i.i c.index.result.now below ∙ ap Some (sym c.index.ensures ∙ w.in-Some.is) in
          rw (w.cx-is, w.table-is, w.value-is) (guess_choice c.args.cx.now c.loop-i.cx c.args.table.now c.loop-i.table c.args.universe (trees_of c.args.cx.now.nodes c.args.values.now) (trees_of c.args.cx.now.nodes c.args.originals.now) _ c.args.kinds.now c.in_ok-guessed.guessed.items c.loop-i.i _ w.in-Some.original g at found (omega (arith, l)) s))
      | in-None+in_ok-value-in-None w ↦ (let e = w.in_ok-value-in-None.ensures in
          let same = originals_kept c.args.cx.now c.loop-i.cx c.args.table.now c.loop-i.table _ c.args.originals.now s c.requires.originals in
          rw (w.cx-is, w.table-is, w.value-is) (made_choice c.args.cx.now c.loop-i.cx w.choose_value.new.cx c.args.table.now c.loop-i.table w.choose_value.new.table c.args.universe _ _ _ _ c.loop-i.i _ w.in_ok-value-in-None.value same w.choose_value.ensures.keeps e.arg e.sort e.made (rw w.deref.ensures.value at e.placed)))
    ]

pub loop-i-preserved : goal.loop-i-preserved
loop-i-preserved c =
    let x = choice c in
    one_chosen c.args.cx.now c.loop-i.cx c.match-index.cx c.args.table.now c.loop-i.table c.match-index.table c.args.universe _ _ c.args.kinds.now c.loop-i.chosen.items c.push.new.self.items c.loop-i.i (var.Ty 0 0) c.match-index.value c.loop-i-test.true c.loop-i.invariant x.keeps x.arg x.sort x.chosen x.placed c.in_ok-push.ensures.items

-- all are chosen
pub returns : goal.returns
returns c =
    let all = rw (take_all c.loop-i.i c.args.kinds.now c.loop-i-test.false) at c.loop-i.invariant in
    record { chosen = all.chosen; args = all.args; placed = all.placed; sorts = all.sorts; keeps = all.keeps; memory = tt }

-- memory ran out
pub returns-in_err-guessed : goal.returns-in_err-guessed
returns-in_err-guessed c = chooses_none _ _ _ _ _ c.from_residual.result c.from_residual.ensures.1 (step_none c.args.cx.now c.args.table.now c.requires.table)

pub returns-in_err-chosen : goal.returns-in_err-chosen
returns-in_err-chosen c = chooses_none _ _ _ _ _ c.from_residual-in_err-chosen.result c.from_residual-in_err-chosen.ensures.1 (step_none c.args.cx.now c.args.table.now c.requires.table)

pub returns-in_err-value-in-None : goal.returns-in_err-value-in-None
returns-in_err-value-in-None c =
    let r = c.from_residual-in_err-value-in-None in
    chooses_none _ _ _ _ _ r.result (subst (λ e. IsErrAnd r.result (λ x. x ≡ e)) c.in_err-value-in-None.ensures.memory r.ensures.1) (step_then c.loop-i.invariant.keeps c.choose_value.ensures.keeps)
