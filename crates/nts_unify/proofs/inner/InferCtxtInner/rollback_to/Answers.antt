use Rattle.std.proofs.Common.{refl, ap, sym, arith, ◌≤◌, ◌∙◌, ◌++◌, ◌∷◌, [], length, drop, List, length-append}
use Rattle.nts_unify.specs.declared.contents.UndoLog.{UndoLog}
use Rattle.nts_unify.specs.Entries.{Inner, all_undone}
use Rattle.nts_unify.proofs.SavedLemmas.{rolled_back, undone-push, AreMarks-front}
use Rattle.nts_unify.proofs.inner.InferCtxtInner.rollback_to.Goals as goal

pub loop-self-init : goal.loop-self-init
loop-self-init c =
    let f = AreMarks-front _ c.in-Some.mark _ (rw c.in-Some.ensures.items at c.self.invariant) in
    record { same = λ p h. refl; marks = f.0; kept = refl; long = f.1 }

pub loop-self-preserved-in-Some-pop : goal.loop-self-preserved-in-Some-pop
loop-self-preserved-in-Some-pop c =
    let e = c.in-Some-pop.ensures.items in
    let i = c.loop-self.invariant in
    let log = c.pop-in-loop-self.new.self.items in
    let x = c.in-Some-pop.change in
    let old = c.loop-self.self-inside.contents in
    let long : c.in-Some.mark ≤ length log = omega (arith, ap length e, length-append log (x ∷ [])) in
    record {
      same = λ p h.
          ap (all_undone (drop p log)) c.undo.ensures
          ∙ sym (undone-push log x old p (omega arith))
          ∙ ap (λ (l : List UndoLog). all_undone (drop p l) old) (sym e)
          ∙ i.same p h;
      marks = i.marks;
      kept = i.kept;
      long = long;
    }

pub returns-after-loop-self : goal.returns-after-loop-self
returns-after-loop-self c =
    let i = c.loop-self.invariant in
    let e = c.in-Some.ensures.items ∙ ap (λ ps. ps ++ c.in-Some.mark ∷ []) (sym i.kept) in
    record {
      saved = sym (ap (λ (t : Inner). t.saved) c.self.view_is) ∙ rolled_back _ _ _ _ _ _ c.in-Some.mark e i.marks i.same (omega arith);
    }
