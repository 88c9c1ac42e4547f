use Rattle.std.proofs.Common.{refl, ap, rules}
use Rattle.nts_nested_goals.specs.declared.state.EvalState.{EvalState}
use Rattle.nts_contexts.proofs.Frames.{keeps_refl, keeps_grown}
use Rattle.nts_nested_goals.proofs.Relates.{related_noted}
use Rattle.nts_contexts.proofs.context.EvalCtxt.relate.Goals as goal

pub returns-in_err-check : goal.returns-in_err-check
returns-in_err-check g c =
    record {
      keeps = keeps_refl c.requires.ready;
      heads = search rules;
      related = search rules;
      equal = λ p. search rules;
      no = search rules;
      unequal = search rules;
      full = search rules;
      goals = search rules;
      err = search rules;
      nothing = search rules;
      fault = search rules;
      faulted = search rules;
    }

pub returns : goal.returns
returns g c =
    let r = c.relate_and_push-related.ensures in
    let h = c.requires.ready in
    let k = r.kept in
    record {
      keeps = keeps_grown c.relate_and_push-related.new.state _ g.met.H.GoalHandler.ready_kept h refl refl refl refl r.runs c.note.ensures.fault r.posed c.in_ok-check.ensures.ok k.taint k.depth;
      heads = rw c.note.ensures.same r.heads;
      related = rw c.note.ensures.same (related_noted _ _ _ _ _ _ _ _ _ _ _ _ (ap (λ (z : EvalState). z.nested_goals.items) c.note.ensures.fault) r.related);
      equal = λ p. search rules;
      no = search rules;
      unequal = search rules;
      full = search rules;
      goals = search rules;
      err = search rules;
      nothing = search rules;
      fault = search rules;
      faulted = search rules;
    }
