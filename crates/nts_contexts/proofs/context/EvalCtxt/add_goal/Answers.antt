use Rattle.std.proofs.Common.{refl}
use Rattle.nts_contexts.proofs.Frames.{keeps_refl, keeps_grown}
use Rattle.nts_contexts.proofs.context.EvalCtxt.add_goal.Goals as goal

pub returns-in_err-check-clause-keeps : goal.returns-in_err-check-clause-keeps
returns-in_err-check-clause-keeps g c = keeps_refl c.requires.ready

pub returns-clause-keeps : goal.returns-clause-keeps
returns-clause-keeps g c =
    let r = c.add_all-added.ensures in
    let k = r.kept in
    keeps_grown c.add_all-added.new.state _ g.met.H.GoalHandler.ready_kept c.requires.ready refl refl refl refl r.runs c.note.ensures.fault r.posed c.in_ok-check.ensures.ok k.taint k.depth
