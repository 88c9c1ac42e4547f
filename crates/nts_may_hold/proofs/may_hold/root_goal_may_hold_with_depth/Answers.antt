use Rattle.std.proofs.Common.{◌≡◌, Err, rules, sym}
use Rattle.nts_store.specs.declared.fault.EvalError.TheVariants as EvalError
use Rattle.nts_evaluation.specs.nts_meaning.proofs.Evaluating.{IsPosed-admitted, Since-now}
use Rattle.nts_evaluation.proofs.Coherence.{no_solution_under}
use Rattle.nts_evaluation.proofs.FactRoots.{fact_stands}
use Rattle.nts_may_hold.proofs.may_hold.root_goal_may_hold_with_depth.Goals as goal

pub evaluate_and_roll_back-requires-clause-posed : goal.evaluate_and_roll_back-requires-clause-posed
evaluate_and_roll_back-requires-clause-posed g c = IsPosed-admitted c.requires.table c.requires.admitted

pub returns-in-Ok-clause-held : goal.returns-in-Ok-clause-held
returns-in-Ok-clause-held g c = λ yes. (_, c.in-Ok.ensures.evaluated (Since-now c.terms_are_formed.ensures c.requires.ready))

pub returns-in-Err-NoSolution-clause-refuted : goal.returns-in-Err-NoSolution-clause-refuted
returns-in-Err-NoSolution-clause-refuted g c = λ no.
    let refused : c.evaluate_and_roll_back.result ≡ Err EvalError.NoSolution = search rules in
    c.evaluate_and_roll_back.ensures.refuted (Since-now c.terms_are_formed.ensures c.requires.ready) refused

pub returns-in-Err-NoSolution-clause-none : goal.returns-in-Err-NoSolution-clause-none
returns-in-Err-NoSolution-clause-none g c = λ no here.
    let ts = c.args.cx.now.nodes in
    let lawful = g.met.H.GoalHandler.lawful ts c.args.handler.now c.terms_are_formed.ensures c.requires.ready in
    let law = g.met.H.GoalHandler.offered ts c.args.handler.now c.terms_are_formed.ensures c.requires.ready in
    no_solution_under c.requires.table c.requires.admitted lawful law here (returns-in-Err-NoSolution-clause-refuted g c no)

pub returns-in-Ok-clause-decided : goal.returns-in-Ok-clause-decided
returns-in-Ok-clause-decided g c = λ b d may. (let x = c.in-Ok.ensures.decided (Since-now c.terms_are_formed.ensures c.requires.ready) b d may in sym x.0)

pub returns-in-Err-NoSolution-clause-decided : goal.returns-in-Err-NoSolution-clause-decided
returns-in-Err-NoSolution-clause-decided g c = λ b d may.
    let refused : c.evaluate_and_roll_back.result ≡ Err EvalError.NoSolution = search rules in
    let x = c.evaluate_and_roll_back.ensures.decided (Since-now c.terms_are_formed.ensures c.requires.ready) b d may in
    sym (rw refused at x)

pub returns-in-Err-NoSolution-clause-only_fact : goal.returns-in-Err-NoSolution-clause-only_fact
returns-in-Err-NoSolution-clause-only_fact g c = λ f may.
    let refused : c.evaluate_and_roll_back.result ≡ Err EvalError.NoSolution = search rules in
    let x = c.evaluate_and_roll_back.ensures.only_fact (Since-now c.terms_are_formed.ensures c.requires.ready) f may in
    sym (rw refused at x)

pub returns-in-Err-NoSolution-clause-fact : goal.returns-in-Err-NoSolution-clause-fact
returns-in-Err-NoSolution-clause-fact g c = λ f tight no.
    fact_stands c.args.table.now.mode c.requires.table c.requires.admitted (g.met.H.GoalHandler.lawful c.args.cx.now.nodes c.args.handler.now c.terms_are_formed.ensures c.requires.ready) tight f (returns-in-Err-NoSolution-clause-refuted g c no)
