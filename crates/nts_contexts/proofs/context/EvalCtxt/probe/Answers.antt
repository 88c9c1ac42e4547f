use Rattle.std.proofs.Common.{arith, sym, ap, ◌∷◌, [], length, length-append, MutBor}
use Rattle.nts_terms.specs.declared.cx.Cx.{Cx}
use Rattle.nts_evaluation.specs.nts_meaning.proofs.Evaluating.{rolled_back}
use Rattle.nts_nested_goals.specs.declared.state.EvalState.{EvalState}
use Rattle.nts_contexts.proofs.Begun.{probe_begun}
use Rattle.nts_nested_goals.proofs.Ended.{kept_fault, back_at}
use Rattle.nts_contexts.proofs.Frames.{keeps_refused, keeps_ran}
use Rattle.nts_contexts.proofs.context.EvalCtxt.probe.Goals as goal

pub returns-in_err-state-clause-keeps : goal.returns-in_err-state-clause-keeps
returns-in_err-state-clause-keeps g c =
    let e = c.begin_probe.ensures in
    keeps_refused c.begin_probe.result c.requires.ready e.table e.cx e.handler e.state c.in_err-state.ensures.err e.left

pub f-answer-requires : goal.f-answer-requires
f-answer-requires g c =
    let s = c.in_ok-state.ensures in
    let e = c.begin_probe.ensures in
    c.requires.callable _ (probe_begun c.requires.ready s.sound s.opened e.store e.handler s.copy)

pub shape_of-self : goal.shape_of-self
shape_of-self g c =
    let s = c.in_ok-state.ensures in
    let e = c.begin_probe.ensures in
    let k = c.requires.keeps _ _ _ c.f-answer.ensures (probe_begun c.requires.ready s.sound s.opened e.store e.handler s.copy).is_ready in
    sym k.cx

pub shape_of-self-2 : goal.shape_of-self-2
shape_of-self-2 g c =
    let s = c.in_ok-state.ensures in
    let e = c.begin_probe.ensures in
    let k = c.requires.keeps _ _ _ c.f-answer.ensures (probe_begun c.requires.ready s.sound s.opened e.store e.handler s.copy).is_ready in
    sym k.table

pub rollback_to-requires : goal.rollback_to-requires
rollback_to-requires g c =
    let s = c.in_ok-state.ensures in
    let e = c.begin_probe.ensures in
    let k = c.requires.keeps _ _ _ c.f-answer.ensures (probe_begun c.requires.ready s.sound s.opened e.store e.handler s.copy).is_ready in
    let o = s.opened in
    let r = k.runs.goes in
    let t = c.args.self.now.table.now in
    omega (arith, ap length r.saved, ap length o.saved, s.saved, length-append t.saved (t.entries ∷ []))

pub returns-clause-table : goal.returns-clause-table
returns-clause-table g c =
    let s = c.in_ok-state.ensures in
    let e = c.begin_probe.ensures in
    let k = c.requires.keeps _ _ _ c.f-answer.ensures (probe_begun c.requires.ready s.sound s.opened e.store e.handler s.copy).is_ready in
    let o = s.opened in
    rolled_back o.saved k.runs.goes c.rollback_to.ensures.saved o.mode c.rollback_to.ensures.mode

pub returns-clause-keeps : goal.returns-clause-keeps
returns-clause-keeps g c =
    let s = c.in_ok-state.ensures in
    let e = c.begin_probe.ensures in
    let k = c.requires.keeps _ _ _ c.f-answer.ensures (probe_begun c.requires.ready s.sound s.opened e.store e.handler s.copy).is_ready in
    let o = s.opened in
    let h = c.requires.ready in
    keeps_ran c.begin_probe.new.self.state.now _ g.met.H.GoalHandler.ready_kept h e.table (ap (λ (m : MutBor Cx). m.ghost_name) e.cx) e.handler e.state
    (back_at e.store h.table k.runs (rolled_back o.saved k.runs.goes c.rollback_to.ensures.saved o.mode c.rollback_to.ensures.mode)) c.note.ensures.fault (rw e.left h.goals) s.sound
    (ap (λ (z : EvalState). z.is_tainted) e.left) (ap (λ (z : EvalState). z.root_depth) e.left)

pub returns-clause-answers : goal.returns-clause-answers
returns-clause-answers g c n =
    let s = c.in_ok-state.ensures in
    let e = c.begin_probe.ensures in
    record {
      before = _;
      after = _;
      begun = probe_begun c.requires.ready s.sound s.opened e.store e.handler s.copy;
      called = rw (sym c.note.ensures.same) at c.f-answer.ensures;
      left = kept_fault _ _ c.f-answer.result (rw c.note.ensures.same at n) (ap (λ (z : EvalState). z.fault) c.note.ensures.fault);
    }

pub returns-clause-full : goal.returns-clause-full
returns-clause-full g c none q =
    let s = c.in_ok-state.ensures in
    let e = c.begin_probe.ensures in
    record {
      before = _;
      after = _;
      begun = probe_begun c.requires.ready s.sound s.opened e.store e.handler s.copy;
      called = rw (rw c.note.ensures.same at q) at c.f-answer.ensures;
    }
