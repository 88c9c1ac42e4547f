use Rattle.std.proofs.Common.{refl}
use Rattle.nts_meaning.proofs.Running.{Stays-now}
use Rattle.nts_theory.proofs.Derivations.Rooted.{proved_held, proof_falls}
use Rattle.nts_meaning.proofs.Evaluating.{IsPosed-admitted, Runs-refl, Since-now, each_of}
use Rattle.nts_evaluation.proofs.Coherence.{no_solution_under, keeps_solutions_under, each_kept}
use Rattle.nts_evaluation.proofs.FactRoots.{fact_stands}
use Rattle.nts_evaluation.proofs.Skipped.{not_skipped, not_asked, keeps_its_own}
use Rattle.nts_evaluation.proofs.solve.evaluate_root_goal.Goals as goal

pub evaluate_root-evaluated-requires-clause-posed : goal.evaluate_root-evaluated-requires-clause-posed
evaluate_root-evaluated-requires-clause-posed g c = IsPosed-admitted c.requires.table c.requires.admitted

pub returns-clause-proved : goal.returns-clause-proved
returns-clause-proved g c =
    let e = c.evaluate_root-evaluated.ensures in
    each_of c.evaluate_root-evaluated.result e.proved (λ a proved y.
    let now = Stays-now c.terms_are_formed-2.ensures e.runs.goes.table (proved (Since-now c.terms_are_formed.ensures c.requires.ready) y) in
    proved_held _ _ _ _ _ e.runs.goes.table.now.sound now)

pub returns-clause-falls : goal.returns-clause-falls
returns-clause-falls g c = λ none.
    let e = c.evaluate_root-evaluated.ensures in
    each_of c.evaluate_root-evaluated.result e.proved (λ a proved y.
    let now = Stays-now c.terms_are_formed-2.ensures e.runs.goes.table (proved (Since-now c.terms_are_formed.ensures c.requires.ready) y) in
    let held = proved_held _ _ _ _ _ e.runs.goes.table.now.sound now in
    record {
      sequent = held.sequent;
      environment = held.environment;
      predicate = held.predicate;
      constraints = held.constraints;
      no_hidden = held.no_hidden;
      no_open_goals = held.no_open_goals;
      proof = proof_falls _ _ _ none held.proof;
    })

pub returns-clause-evaluates : goal.returns-clause-evaluates
returns-clause-evaluates g c = λ asked. c.evaluate_root-evaluated.ensures.evaluates (Since-now c.terms_are_formed.ensures c.requires.ready)

pub returns-clause-refuted : goal.returns-clause-refuted
returns-clause-refuted g c = λ q.
    c.evaluate_root-evaluated.ensures.refuted (Since-now c.terms_are_formed.ensures c.requires.ready) q

pub returns-clause-none : goal.returns-clause-none
returns-clause-none g c = λ q x.
    let ts = c.args.cx.now.nodes in
    let lawful = g.met.H.GoalHandler.lawful ts c.args.handler.now c.terms_are_formed.ensures c.requires.ready in
    let law = g.met.H.GoalHandler.offered ts c.args.handler.now c.terms_are_formed.ensures c.requires.ready in
    no_solution_under c.requires.table c.requires.admitted lawful law x (c.evaluate_root-evaluated.ensures.refuted (Since-now c.terms_are_formed.ensures c.requires.ready) q)

pub returns-clause-keeps : goal.returns-clause-keeps
returns-clause-keeps g c = λ x.
    let ts = c.args.cx.now.nodes in
    let lawful = g.met.H.GoalHandler.lawful ts c.args.handler.now c.terms_are_formed.ensures c.requires.ready in
    let law = g.met.H.GoalHandler.offered ts c.args.handler.now c.terms_are_formed.ensures c.requires.ready in
    let told = c.evaluate_root-evaluated.ensures.evaluates (Since-now c.terms_are_formed.ensures c.requires.ready) in
    each_kept c.evaluate_root-evaluated.result told (λ e k. keeps_solutions_under c.requires.table c.requires.admitted lawful law x c.evaluate_root-evaluated.new.cx.nodes c.evaluate_root-evaluated.new.table k)

pub returns-clause-decided : goal.returns-clause-decided
returns-clause-decided g c = λ asked. rw c.recursion_limit-depth.ensures at (c.evaluate_root-evaluated.ensures.decided (Since-now c.terms_are_formed.ensures c.requires.ready))

pub returns-clause-only_fact : goal.returns-clause-only_fact
returns-clause-only_fact g c = λ asked. c.evaluate_root-evaluated.ensures.only_fact (Since-now c.terms_are_formed.ensures c.requires.ready)

pub returns-clause-fact : goal.returns-clause-fact
returns-clause-fact g c = λ f tight no.
    fact_stands c.args.table.now.mode c.requires.table c.requires.admitted (g.met.H.GoalHandler.lawful c.args.cx.now.nodes c.args.handler.now c.terms_are_formed.ensures c.requires.ready) tight f (c.evaluate_root-evaluated.ensures.refuted (Since-now c.terms_are_formed.ensures c.requires.ready) no)

pub returns-clause-skipped : goal.returns-clause-skipped
returns-clause-skipped g c = not_skipped _ _ c.args.stalled_on _ (c.still_stalled.ensures.asked c.in_default.is)

pub returns-in-Some-clause-runs : goal.returns-in-Some-clause-runs
returns-in-Some-clause-runs g c = Runs-refl c.requires.table

pub returns-in-Some-clause-skipped : goal.returns-in-Some-clause-skipped
returns-in-Some-clause-skipped g c = rw c.in-Some.ensures.stalls.0 (λ stalls. record { answer = refl; table = refl; store = refl })

pub returns-in-Some-clause-goal : goal.returns-in-Some-clause-goal
returns-in-Some-clause-goal g c = λ asked. absurd (not_asked c.in-Some.ensures.stalls asked)

pub returns-in-Some-clause-evaluates : goal.returns-in-Some-clause-evaluates
returns-in-Some-clause-evaluates g c = λ asked. absurd (not_asked c.in-Some.ensures.stalls asked)

pub returns-in-Some-clause-kept : goal.returns-in-Some-clause-kept
returns-in-Some-clause-kept g c = λ asked. absurd (not_asked c.in-Some.ensures.stalls asked)

pub returns-in-Some-clause-decided : goal.returns-in-Some-clause-decided
returns-in-Some-clause-decided g c = λ asked. absurd (not_asked c.in-Some.ensures.stalls asked)

pub returns-in-Some-clause-only_fact : goal.returns-in-Some-clause-only_fact
returns-in-Some-clause-only_fact g c = λ asked. absurd (not_asked c.in-Some.ensures.stalls asked)

pub returns-in-Some-clause-keeps : goal.returns-in-Some-clause-keeps
returns-in-Some-clause-keeps g c = λ here. keeps_its_own _ _ _ _
