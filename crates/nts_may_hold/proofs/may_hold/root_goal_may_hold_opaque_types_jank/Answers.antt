use Rattle.std.proofs.Common.{◌≡◌, ◌∙◌, inl, inr, true, false, Err, rules, sym}
use Rattle.nts_store.specs.declared.fault.EvalError.TheVariants as EvalError
use Rattle.nts_evaluation.specs.nts_meaning.proofs.Evaluating.{IsPosed-admitted, Since-now}
use Rattle.nts_may_hold.proofs.may_hold.root_goal_may_hold_opaque_types_jank.Goals as goal

pub evaluate_and_roll_back-requires-clause-posed : goal.evaluate_and_roll_back-requires-clause-posed
evaluate_and_roll_back-requires-clause-posed g c = IsPosed-admitted c.requires.table c.requires.admitted

pub returns-in-Ok-clause-held : goal.returns-in-Ok-clause-held
returns-in-Ok-clause-held g c = λ yes.
    let good : c.is_all_good.result ≡ true = cc yes in
    (c.in-Ok.certainty, c.is_all_good.ensures.0 good, c.in-Ok.ensures.evaluated (Since-now c.terms_are_formed.ensures c.requires.ready))

pub returns-in-Ok-clause-refuted : goal.returns-in-Ok-clause-refuted
returns-in-Ok-clause-refuted g c = λ no.
    let bad : c.is_all_good.result ≡ false = cc no in
    inr (c.in-Ok.certainty, λ good. (let clash = c.is_all_good.ensures.1 good in cc (bad, clash)), c.in-Ok.ensures.evaluated (Since-now c.terms_are_formed.ensures c.requires.ready))

pub returns-in-Err-NoSolution-clause-refuted : goal.returns-in-Err-NoSolution-clause-refuted
returns-in-Err-NoSolution-clause-refuted g c = λ no.
    let refused : c.evaluate_and_roll_back.result ≡ Err EvalError.NoSolution = search rules in
    inl (c.evaluate_and_roll_back.ensures.refuted (Since-now c.terms_are_formed.ensures c.requires.ready) refused)

pub returns-in-Ok-clause-decided : goal.returns-in-Ok-clause-decided
returns-in-Ok-clause-decided g c = λ b d may.
    let x = c.in-Ok.ensures.decided (Since-now c.terms_are_formed.ensures c.requires.ready) b (rw c.recursion_limit-depth.ensures d) may in
    c.is_all_good.ensures.1 (rw x.1 tt) ∙ sym x.0

pub returns-in-Err-NoSolution-clause-decided : goal.returns-in-Err-NoSolution-clause-decided
returns-in-Err-NoSolution-clause-decided g c = λ b d may.
    let refused : c.evaluate_and_roll_back.result ≡ Err EvalError.NoSolution = search rules in
    let x = c.evaluate_and_roll_back.ensures.decided (Since-now c.terms_are_formed.ensures c.requires.ready) b (rw c.recursion_limit-depth.ensures d) may in
    sym (rw refused at x)

pub returns-in-Ok-clause-only_fact : goal.returns-in-Ok-clause-only_fact
returns-in-Ok-clause-only_fact g c = λ f may.
    let x = c.in-Ok.ensures.only_fact (Since-now c.terms_are_formed.ensures c.requires.ready) f may in
    c.is_all_good.ensures.1 (rw x.1 tt)

pub returns-in-Err-NoSolution-clause-only_fact : goal.returns-in-Err-NoSolution-clause-only_fact
returns-in-Err-NoSolution-clause-only_fact g c = λ f may.
    let refused : c.evaluate_and_roll_back.result ≡ Err EvalError.NoSolution = search rules in
    let x = c.evaluate_and_roll_back.ensures.only_fact (Since-now c.terms_are_formed.ensures c.requires.ready) f may in
    sym (rw refused at x)
