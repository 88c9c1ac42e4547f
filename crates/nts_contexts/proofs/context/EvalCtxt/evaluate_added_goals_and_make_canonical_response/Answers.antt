use Rattle.std.proofs.Common.{◌≡◌, inr, true, Bool, [], refl, sym, rules, ap, ◌∙◌, subst}
use Rattle.std.specs.Prelude.{Result, Ok, Err, IfOk, OnOk}
use Rattle.std.proofs.lemmas.Result.{IfOk-from_err}
use Rattle.nts_store.specs.declared.fault.EvalError.{EvalError}
use Rattle.nts_store.specs.declared.fault.EvalError.TheVariants as error
use Rattle.nts_store.proofs.Growing.{Extends-trans}
use Rattle.nts_unify.specs.Reading.{content_of}
use Rattle.nts_unify.specs.Lawful.{content_of-extended}
use Rattle.nts_evaluation.specs.nts_meaning.proofs.Evaluating.{Goes-extends, Runs-extends}
use Rattle.nts_evaluation.specs.nts_trying.proofs.Stepping.{settled_after, left_refl, posed_later}
use Rattle.nts_contexts.proofs.Frames.{keeps_refl, keeps_then, keeps_ended, none_after}
use Rattle.nts_nested_goals.specs.Faults.{tainted_after}
use Rattle.nts_theory.specs.Telling.Reaches.{asks_nothing}
use Rattle.nts_contexts.proofs.context.EvalCtxt.evaluate_added_goals_and_make_canonical_response.Goals as goal
use Rattle.nts_nested_goals.specs.declared.state.EvalState.{EvalState}
use Rattle.nts_model.specs.Tables.Contents.{Content}
use Rattle.nts_model.specs.Answers.Responses.{Response as Form}
use Rattle.nts_certainty.specs.declared.certainty.Certainty.{Certainty}
use Rattle.nts_certainty.specs.Certainties.{both}
use Rattle.nts_contexts.specs.Promises.{IsOfBoth}
use Rattle.nts_response.specs.Forms.{response_at}
use Rattle.nts_theory.specs.Telling.{IsResponseOf}
use Rattle.nts_evaluation.specs.nts_meaning.specs.Answering.{told_in}

-- a taint stays
stays_tainted : {R : Type 0} (b : Bool) (r : Result R EvalError) → b ≡ true → tainted_after b r ≡ true
stays_tainted b (Ok x) e = e
stays_tainted b (Err error.NoSolution) e = refl
stays_tainted b (Err error.Memory) e = e
stays_tainted b (Err error.Full) e = e

on_each : {X E P : Type 0} (r : Result X E) → P → OnOk r P
on_each (Ok x) p = p
on_each (Err e) p = tt

-- what a response of a table says, it says of the table afterwards
says_after : {X : Type 0} (form : X → Form) (sure : X → Certainty) {c d : Content} (x : Certainty) (r q : Result X EvalError) → r ≡ q → d ≡ c → IfOk q (λ z. sure z ≡ x)
    → IfOk q (λ z. IsResponseOf (told_in x c) [] (form z)) → IfOk r (λ z. IsResponseOf (told_in (sure z) d) [] (form z))
says_after form sure x r (Ok z) e k p s = rw (e, k, p) s
says_after form sure x r (Err z) e k p s = rw e tt

-- it is as sure as both are
rests_on : {X : Type 0} (sure : X → Certainty) (shallow y : Certainty) {c : Certainty} (r q : Result X EvalError) → r ≡ q → c ≡ both shallow y → IfOk q (λ z. sure z ≡ c) → IfOk r (λ z. IsOfBoth shallow (let answered : Result Certainty EvalError = Ok y in answered) (sure z))
rests_on sure shallow y r (Ok z) e k p = rw e (record { goals = y; answered = refl; is = p ∙ k })
rests_on sure shallow y r (Err z) e k p = rw e tt

pub returns-in_err-check-clause-keeps : goal.returns-in_err-check-clause-keeps
returns-in_err-check-clause-keeps g c = keeps_refl c.requires.ready

pub returns-then-self-clause-keeps : goal.returns-then-self-clause-keeps
returns-then-self-clause-keeps g c = keeps_refl c.requires.ready

pub returns-clause-keeps : goal.returns-clause-keeps
returns-clause-keeps g c =
    let e = c.in_ok-goals_certainty.ensures in
    let m = c.checked_response-response.ensures in
    let s = c.try_evaluate_added_goals.new.self.state.now in
    let h = e.keeps.is_ready in
    let none = none_after c.args.self.now.state.now.fault c.in_ok-goals_certainty.goals_certainty c.in_ok-check.ensures.ok e.fault in
    let after = record s { is_tainted = tainted_after s.is_tainted c.checked_response-response.result } in
    keeps_then e.keeps
    (keeps_ended after _ g.met.H.GoalHandler.ready_kept h refl refl refl refl (Runs-extends h.table m.grows.extends m.grows.rest) c.end_answer.ensures.state (posed_later s.nested_goals.items (Goes-extends h.table m.grows.extends) h.goals) none (stays_tainted s.is_tainted c.checked_response-response.result) refl)

pub returns-in_err-check-clause-evaluates : goal.returns-in_err-check-clause-evaluates
returns-in_err-check-clause-evaluates g c =
    record { left = left_refl _; proved = λ s. IfOk-from_err c.from_residual.result _ (search rules); faulted = search rules }

pub returns-then-self-clause-evaluates : goal.returns-then-self-clause-evaluates
returns-then-self-clause-evaluates g c = record { left = left_refl _; proved = λ s. tt; faulted = search rules }

pub returns-clause-evaluates : goal.returns-clause-evaluates
returns-clause-evaluates g c =
    let e = c.in_ok-goals_certainty.ensures in
    let m = c.checked_response-response.ensures in
    let goals = ap (λ (z : EvalState). z.nested_goals.items) c.end_answer.ensures.state in
    record {
      left = rw goals e.evaluates.left;
      proved = λ s.
          rw goals (on_each c.end_answer.result
          (settled_after {u = c.try_evaluate_added_goals.new.self.table.now} {v = c.try_evaluate_added_goals.new.self.table.now} (λ ts. g.H.GoalHandler.handler ts c.args.self.now.handler.now) s c.args.self.now.table.now.mode c.args.self.now.state.now.nested_goals.items c.try_evaluate_added_goals.new.self.state.now.nested_goals.items
          c.requires.ready.goals e.keeps.runs.goes.extends (Goes-extends e.keeps.is_ready.table m.grows.extends) (e.evaluates.proved s)));
      faulted = search rules;
    }

pub returns-clause-says : goal.returns-clause-says
returns-clause-says g c =
    let e = c.in_ok-goals_certainty.ensures in
    let m = c.checked_response-response.ensures in
    let h = e.keeps.is_ready in
    says_after (response_at c.checked_response-response.new.cx.nodes) (λ z. z.value.certainty) _ c.end_answer.result c.checked_response-response.result c.end_answer.ensures.same (content_of-extended m.grows.extends h.table.now) m.certainty m.says

-- a goal was refused, or the handler's leak check says so
pub returns-clause-refuted : goal.returns-clause-refuted
returns-clause-refuted g c = λ s clear no.
    let e = c.in_ok-goals_certainty.ensures in
    let m = c.checked_response-response.ensures in
    let h = e.keeps.is_ready in
    let mid = c.try_evaluate_added_goals.new.self in
    let means = g.met.H.GoalHandler.handler_kept s.base mid.cx.now.nodes c.args.self.now.handler.now s.is_ready (Extends-trans s.extends e.keeps.runs.goes.extends) in
    let leaks = subst (λ k. (g.H.GoalHandler.handler mid.cx.now.nodes k.now).leaks (content_of mid.cx.now.nodes mid.table.now.entries) 0) e.keeps.handler (m.leaks (sym c.end_answer.ensures.same ∙ no)) in
    inr (rw (content_of-extended m.grows.extends h.table.now) (means.leaks (content_of mid.cx.now.nodes mid.table.now.entries) 0 leaks))

-- nothing was asked
pub returns-in_err-check-clause-told : goal.returns-in_err-check-clause-told
returns-in_err-check-clause-told g c = λ s. asks_nothing

pub returns-then-self-clause-told : goal.returns-then-self-clause-told
returns-then-self-clause-told g c = λ s. asks_nothing

pub returns-clause-told : goal.returns-clause-told
returns-clause-told g c = λ s.
    let e = c.in_ok-goals_certainty.ensures in
    let m = c.checked_response-response.ensures in
    let h = e.keeps.is_ready in
    rw (← content_of-extended m.grows.extends h.table.now) at (e.told s)

-- no goal is asked after the steps
pub returns-in_err-goals_certainty-clause-counts : goal.returns-in_err-goals_certainty-clause-counts
returns-in_err-goals_certainty-clause-counts g c = λ s none clear.
    let e = c.try_evaluate_added_goals.ensures in
    record { between = c.try_evaluate_added_goals.new.self; answer = c.try_evaluate_added_goals.result; rests = IfOk-from_err c.from_residual-in_err-goals_certainty.result _ (search rules); counts = e.counts s none; steps = refl; left = refl; table = refl }

pub returns-clause-counts : goal.returns-clause-counts
returns-clause-counts g c = λ s none clear.
    let e = c.in_ok-goals_certainty.ensures in
    let m = c.checked_response-response.ensures in
    record {
      between = c.try_evaluate_added_goals.new.self;
      answer = Ok c.in_ok-goals_certainty.goals_certainty;
      rests = rests_on (λ z. z.value.certainty) c.args.shallow_certainty c.in_ok-goals_certainty.goals_certainty c.end_answer.result c.checked_response-response.result c.end_answer.ensures.same c.and-certainty.ensures m.certainty;
      counts = e.counts s none;
      steps = ap (λ (z : EvalState). z.last_steps) c.end_answer.ensures.state;
      left = ap (λ (z : EvalState). z.nested_goals.items) c.end_answer.ensures.state;
      table = refl;
    }
