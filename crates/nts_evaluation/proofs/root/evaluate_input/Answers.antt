use Rattle.std.proofs.Common.{◌≡◌, Err, rules, subst, arith}
use Rattle.nts_model.specs.Derivations.Handlers.{meaning}
use Rattle.nts_model.specs.Answers.Responses.{answer_sequent}
use Rattle.nts_model.specs.Searching.Stacks.{IsDerivedFrom}
use Rattle.nts_theory.proofs.Derivations.Rooted.{derived_proof}
use Rattle.nts_store.specs.declared.fault.EvalError.TheVariants as EvalError
use Rattle.nts_terms.specs.Modes.{mode_of}
use Rattle.nts_terms.specs.Signatures.{variances_in}
use Rattle.nts_canonical.specs.Forms.{form_of}
use Rattle.nts_response.specs.Forms.{response_at}
use Rattle.nts_candidates.specs.Offered.{path_kind_of}
use Rattle.nts_meaning.specs.Meant.{ruling_in}
use Rattle.nts_meaning.proofs.Evaluating.{Since-now}
use Rattle.nts_meaning.proofs.Searching.{nothing_stands}
use Rattle.nts_meaning.proofs.Rounds.{empty_stack, tell_begun, nothing_left, never_cut}
use Rattle.nts_evaluation.proofs.Coherence.{told_contains, refuted_has_no_input}
use Rattle.nts_evaluation.proofs.root.evaluate_input.Goals as goal

pub returns-in-Ok-clause-proved : goal.returns-in-Ok-clause-proved
returns-in-Ok-clause-proved g c = rw c.into_inner.ensures (λ sure.
    let e = c.in-Ok.ensures in
    let none = empty_stack c.args.graph.now c.requires.search in
    let left = nothing_left c.search.new.cx.nodes (path_kind_of c.args.step_kind) none c.search.ensures.searches in
    let derived = rw c.in_ok-input.ensures.ok at (e.proved (Since-now c.terms_are_formed.ensures c.requires.ready) sure) in
    derived_proof _ _ _ (subst (λ A. IsDerivedFrom (meaning (g.H.GoalHandler.handler c.args.cx.now.nodes c.args.handler.now) (variances_in c.args.cx.now.declarations)) (mode_of c.args.input.typing_mode) A (answer_sequent (form_of c.args.cx.now.nodes c.args.input) (response_at c.search.new.cx.nodes c.in-Ok.answer.value))) left derived))

pub returns-in-Ok-clause-told : goal.returns-in-Ok-clause-told
returns-in-Ok-clause-told g c =
    let none = empty_stack c.args.graph.now c.requires.search in
    rw c.into_inner.ensures (rw c.in_ok-input.ensures.ok at (c.in-Ok.ensures.told (Since-now c.terms_are_formed.ensures c.requires.ready) (tell_begun c.args.graph.now (ruling_in g.H.GoalHandler.handler c.args.cx.now c.args.handler.now) c.args.cx.now.nodes none)))

pub returns-in-Err-NoSolution-clause-refuted : goal.returns-in-Err-NoSolution-clause-refuted
returns-in-Err-NoSolution-clause-refuted g c = λ q.
    let none = empty_stack c.args.graph.now c.requires.search in
    let refused : c.search.result ≡ Err EvalError.NoSolution = search rules in
    never_cut c.args.graph.now none (rw c.in_ok-input.ensures.ok at (c.search.ensures.refuted (Since-now c.terms_are_formed.ensures c.requires.ready) (tell_begun c.args.graph.now (ruling_in g.H.GoalHandler.handler c.args.cx.now c.args.handler.now) c.args.cx.now.nodes none) refused))

pub returns-in-Ok-clause-fits : goal.returns-in-Ok-clause-fits
returns-in-Ok-clause-fits g c = rw c.into_inner.ensures (rw c.in_ok-input.ensures.ok at c.in-Ok.ensures.fits)

pub returns-in-Ok-clause-contains : goal.returns-in-Ok-clause-contains
returns-in-Ok-clause-contains g c = λ here.
    let ts = c.args.cx.now.nodes in
    let lawful = g.met.H.GoalHandler.lawful ts c.args.handler.now c.terms_are_formed.ensures c.requires.ready in
    let law = g.met.H.GoalHandler.offered ts c.args.handler.now c.terms_are_formed.ensures c.requires.ready in
    told_contains c.requires.input lawful law here c.search.new.cx.nodes c.into_inner.result (returns-in-Ok-clause-told g c)

pub returns-in-Err-NoSolution-clause-none : goal.returns-in-Err-NoSolution-clause-none
returns-in-Err-NoSolution-clause-none g c = λ here q.
    let ts = c.args.cx.now.nodes in
    let lawful = g.met.H.GoalHandler.lawful ts c.args.handler.now c.terms_are_formed.ensures c.requires.ready in
    let law = g.met.H.GoalHandler.offered ts c.args.handler.now c.terms_are_formed.ensures c.requires.ready in
    refuted_has_no_input c.requires.input lawful law here (returns-in-Err-NoSolution-clause-refuted g c q)

pub returns-in-Ok-clause-counted : goal.returns-in-Ok-clause-counted
returns-in-Ok-clause-counted g c = λ limit.
    let none = empty_stack c.args.graph.now c.requires.search in
    let both = c.in-Ok.ensures.counted (nothing_stands c.args.cx.now.nodes c.args.graph.now _ none) limit tt in
    (both.0, omega (arith, both.1))
