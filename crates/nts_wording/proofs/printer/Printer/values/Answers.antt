use Rattle.std.proofs.Common.{◌<◌, Some, None, [], get_or, length, take, refl, sym, subst}
use Rattle.std.specs.Prelude.{slice_get}
use Rattle.std.specs.List.{zip}
use Rattle.nts_text.specs.Spelled.{type_names}
use Rattle.nts_wording.specs.Answers.{node_of, bound_by, IsValueLine, AreLines}
use Rattle.nts_wording.specs.Pieces.{lexicon_of, PutsText}
use Rattle.nts_wording.proofs.Growths.{Begins-refl, Begins-trans}
use Rattle.nts_wording.proofs.Writing.{Writes-refl, held}
use Rattle.nts_wording.proofs.Lines.{line_more, bound_one, bound_none, bound_end}
use Rattle.nts_wording.proofs.printer.Printer.values.Goals as goal
use Rattle.nts_wording.proofs.printer.Printer.values.Goals.{in-Some+in-Some-value_at+in_ok-value, in-Some+in_default-value_at, in_default}

pub loop-i-init : goal.loop-i-init
loop-i-init g c =
    record { told = ([], held (g.W.Write.contents c.args.output.now) (Writes-refl c.args.self.now), (refl, refl)); begins = Begins-refl }

pub loop-i-preserved : goal.loop-i-preserved
loop-i-preserved g c =
    let p = c.args.self.now in
    let o = g.W.Write.contents c.args.output.now in
    let i = c.loop-i.invariant in
    let values = c.args.found.now.values.items in
    let names = type_names p.scope.now.variables in
    let places = c.args.found.now.variables.types.items in
    let lt : c.loop-i.i < length c.args.found.now.variables.types.items = rw c.deref-place-items.ensures.value at c.loop-i-test.true in
    let before = bound_by values (zip (take c.loop-i.i names) (take c.loop-i.i places)) in
    elim c.match-spelling.branch [
      | in-Some+in-Some-value_at+in_ok-value w ↦
          rw (w.self-is, w.output-is) (record {
            told = subst (λ bs. PutsText o (g.W.Write.contents w.value.new.output) p w.value.new.self (λ old text new. AreLines (IsValueLine (lexicon_of p)) old bs text new))
                (sym (bound_one values names places c.loop-i.i (Some w.in-Some.name.now) (Some w.in-Some-value_at.value) lt (sym w.in-Some.ensures) (sym (rw (c.deref-place-items.ensures.value, w.deref.ensures.value) at w.in-Some-value_at.ensures))))
                (line_more IsValueLine p c.loop-i.self w.value.new.self before (w.in-Some.name.now, w.in-Some-value_at.value) i.told w.in_ok-value.ensures.told);
            begins = Begins-trans i.begins w.value.ensures.begins;
          })
      | in-Some+in_default-value_at w ↦
          rw (w.self-is, w.output-is) (record {
            told = subst (λ bs. PutsText o (g.W.Write.contents c.loop-i.output) p c.loop-i.self (λ old text new. AreLines (IsValueLine (lexicon_of p)) old bs text new))
                (sym (bound_none values names places c.loop-i.i (Some w.in-Some.name.now) None lt (sym w.in-Some.ensures) (sym (rw (c.deref-place-items.ensures.value, w.deref.ensures.value) at w.in_default-value_at.ensures)) refl)) i.told;
            begins = i.begins;
          })
      | in_default w ↦
          rw (w.self-is, w.output-is) (record {
            told = subst (λ bs. PutsText o (g.W.Write.contents c.loop-i.output) p c.loop-i.self (λ old text new. AreLines (IsValueLine (lexicon_of p)) old bs text new))
                (sym (bound_none values names places c.loop-i.i None (node_of (slice_get values (get_or places c.loop-i.i 0))) lt (sym w.in_default.ensures) refl refl)) i.told;
            begins = i.begins;
          })
    ]

pub returns-clause-told : goal.returns-clause-told
returns-clause-told g c =
    let p = c.args.self.now in
    let i = c.loop-i.invariant in
    let values = c.args.found.now.values.items in
    let names = type_names p.scope.now.variables in
    let places = c.args.found.now.variables.types.items in
    subst (λ bs. PutsText (g.W.Write.contents c.args.output.now) (g.W.Write.contents c.loop-i.output) p c.loop-i.self (λ old text new. AreLines (IsValueLine (lexicon_of p)) old bs text new))
    (bound_end values names places c.loop-i.i (rw c.deref-place-items.ensures.value at c.loop-i-test.false) (rw c.deref-place-items.ensures.value at c.loop-i.auto.i-end)) i.told

pub returns-in_err-value-clause-begins : goal.returns-in_err-value-clause-begins
returns-in_err-value-clause-begins g c = (let i = c.loop-i.invariant in Begins-trans i.begins c.value.ensures.begins)
