use Rattle.std.proofs.Common.{refl}
use Rattle.nts_contexts.proofs.Frames.{keeps_refl, keeps_grown}
use Rattle.nts_contexts.proofs.context.EvalCtxt.relate_rigid_alias_non_alias.Goals as goal

pub returns-in_err-check-clause-keeps : goal.returns-in_err-check-clause-keeps
returns-in_err-check-clause-keeps g c = keeps_refl c.requires.ready

pub returns-clause-keeps : goal.returns-clause-keeps
returns-clause-keeps g c =
    let r = c.relate_rigid_and_push-related.ensures in
    let k = r.kept in
    keeps_grown c.relate_rigid_and_push-related.new.state _ g.met.H.GoalHandler.ready_kept c.requires.ready refl refl refl refl r.runs c.note.ensures.fault r.posed c.in_ok-check.ensures.ok k.taint k.depth
