use Rattle.std.proofs.Common.{refl, rules}
use Rattle.nts_contexts.proofs.Frames.{keeps_refl, keeps_ran}
use Rattle.nts_adding.proofs.Relating.{relate_runs}
use Rattle.nts_nested_goals.proofs.Relates.{answered_posed}
use Rattle.nts_contexts.proofs.context.EvalCtxt.eq_and_get_goals.Goals as goal

pub returns-in_err-check : goal.returns-in_err-check
returns-in_err-check g c =
    record {
      keeps = keeps_refl c.requires.ready;
      posed = search rules;
      goals = search rules;
      heads = search rules;
      related = search rules;
      equal = λ p. search rules;
      no = search rules;
      unequal = search rules;
      full = search rules;
      err = search rules;
      nothing = search rules;
      fault = search rules;
      faulted = search rules;
    }

pub returns : goal.returns
returns g c =
    let r = c.relate-related.ensures in
    let h = c.requires.ready in
    let runs = relate_runs _ _ _ _ (λ gs. gs.items) _ _ _ _ _ c.relate-related.result h.table r.keeps r.related r.err in
    record {
      keeps = keeps_ran c.args.self.now.state.now _ g.met.H.GoalHandler.ready_kept h refl refl refl refl runs c.note.ensures.fault h.goals c.in_ok-check.ensures.ok refl refl;
      posed = rw c.note.ensures.same (answered_posed _ _ _ _ (λ gs. gs.items) c.relate-related.result runs c.requires.env r.related);
      goals = search rules;
      heads = rw c.note.ensures.same r.heads;
      related = rw c.note.ensures.same r.related;
      equal = λ p. rw c.note.ensures.same (r.equal p);
      no = search rules;
      unequal = search rules;
      full = search rules;
      err = search rules;
      nothing = search rules;
      fault = search rules;
      faulted = search rules;
    }
