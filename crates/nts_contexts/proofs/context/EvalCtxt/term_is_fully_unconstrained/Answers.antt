use Rattle.std.proofs.Common.{refl}
use Rattle.nts_evaluation.specs.nts_meaning.proofs.Evaluating.{Runs-extends}
use Rattle.nts_contexts.proofs.Frames.{keeps_refl, keeps_grown}
use Rattle.nts_evaluation.specs.nts_trying.proofs.Stepping.{posed_later}
use Rattle.nts_contexts.proofs.context.EvalCtxt.term_is_fully_unconstrained.Goals as goal

pub returns-in_err-check-clause-keeps : goal.returns-in_err-check-clause-keeps
returns-in_err-check-clause-keeps g c = keeps_refl c.requires.ready

pub returns-clause-keeps : goal.returns-clause-keeps
returns-clause-keeps g c =
    let h = c.requires.ready in
    let grows = c.is_fully_unconstrained-answer.ensures.grows in
    let runs = Runs-extends h.table grows.extends grows.rest in
    keeps_grown c.args.self.now.state.now _ g.met.H.GoalHandler.ready_kept h refl refl refl refl runs c.note.ensures.fault (posed_later c.args.self.now.state.now.nested_goals.items runs.goes h.goals) c.in_ok-check.ensures.ok refl refl
