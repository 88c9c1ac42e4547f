use Rattle.std.proofs.Common.{refl}
use Rattle.nts_contexts.proofs.Frames.{keeps_refl, keeps_ran, related_runs}
use Rattle.nts_contexts.proofs.context.EvalCtxt.eq_structurally_relating_aliases.Goals as goal

pub returns-in_err-check-clause-keeps : goal.returns-in_err-check-clause-keeps
returns-in_err-check-clause-keeps g c = keeps_refl c.requires.ready

pub returns-clause-keeps : goal.returns-clause-keeps
returns-clause-keeps g c =
    let e = c.eq_structurally_relating_aliases-related.ensures in
    let h = c.requires.ready in
    keeps_ran c.args.self.now.state.now _ g.met.H.GoalHandler.ready_kept h refl refl refl refl
    (related_runs _ _ c.eq_structurally_relating_aliases-related.result h.table e.keeps e.related e.err) c.note.ensures.fault h.goals c.in_ok-check.ensures.ok refl refl
