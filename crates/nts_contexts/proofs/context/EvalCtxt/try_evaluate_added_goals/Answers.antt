use Rattle.nts_evaluation.specs.nts_meaning.specs.Meant.{ruling_since}
use Rattle.std.proofs.Common.{◌≡◌, Err, ap, sym, subst, rules}
use Rattle.std.proofs.lemmas.Result.{IfOk-from_err}
use Rattle.nts_nested_goals.specs.declared.state.EvalState.{EvalState}
use Rattle.nts_contexts.proofs.Frames.{keeps_refl}
use Rattle.nts_model.specs.Derivations.Rules.{other_goal}
use Rattle.nts_candidates.proofs.Results.{OnOk-map}
use Rattle.nts_evaluation.specs.nts_meaning.specs.Searching.{assumed_in}
use Rattle.nts_evaluation.specs.nts_meaning.proofs.Searching.{nothing_assumed}
use Rattle.nts_unify.specs.Reading.{content_of}
use Rattle.nts_search.specs.declared.kinds.CurrentGoalKind.TheVariants as kinds
use Rattle.nts_evaluation.specs.nts_trying.specs.Stopping.{RefusesAmong}
use Rattle.nts_evaluation.specs.nts_trying.proofs.Stepping.{settled_rooted, left_refl, stopped_root}
use Rattle.nts_store.specs.declared.fault.EvalError.TheVariants as EvalError
use Rattle.nts_evaluation.specs.nts_meaning.proofs.Rounds.{search_begun, tell_begun}
use Rattle.nts_theory.specs.Telling.Reaches.{asks_nothing}
use Rattle.nts_contexts.proofs.context.EvalCtxt.try_evaluate_added_goals.Goals as goal

pub try_evaluate_goals-evaluated-requires-clause-search : goal.try_evaluate_goals-evaluated-requires-clause-search
try_evaluate_goals-evaluated-requires-clause-search g c = search_begun c.args.self.now.state.now.root_depth c.new-graph.ensures.stack c.new-graph.ensures.empty c.new-graph.ensures.root_depth c.new-graph.ensures.rounds

pub returns-in_err-check-clause-keeps : goal.returns-in_err-check-clause-keeps
returns-in_err-check-clause-keeps g c = keeps_refl c.requires.ready

pub returns-in_err-check-clause-evaluates : goal.returns-in_err-check-clause-evaluates
returns-in_err-check-clause-evaluates g c =
    record { left = left_refl _; proved = λ s. IfOk-from_err c.from_residual.result _ (search rules); faulted = search rules }

pub returns-clause-evaluates : goal.returns-clause-evaluates
returns-clause-evaluates g c =
    let run = c.try_evaluate_goals-evaluated.ensures in
    record {
      left = search rules;
      proved = λ s.
          let none = nothing_assumed c.try_evaluate_goals-evaluated.new.cx.nodes c.new-graph.ensures.empty run.searches in
          let rooted = OnOk-map c.try_evaluate_goals-evaluated.result (λ h. settled_rooted c.try_evaluate_goals-evaluated.new.cx.nodes c.try_evaluate_goals-evaluated.new.table (assumed_in c.try_evaluate_goals-evaluated.new.cx.nodes c.try_evaluate_goals-evaluated.new.graph) (λ ts. g.H.GoalHandler.handler ts c.args.self.now.handler.now) s c.args.self.now.table.now.mode other_goal c.take_goals-goals.result.items c.try_evaluate_goals-evaluated.new.goals.items none h) (run.proved s) in
          let left = sym (ap (λ (z : EvalState). z.nested_goals.items) c.end_steps.ensures.state) in
          let same = sym c.end_steps.ensures.same in
          rw (c.take_goals-goals.ensures.goals, same, left) at rooted;
      faulted = search rules;
    }

-- nothing was asked
pub returns-in_err-check-clause-told : goal.returns-in_err-check-clause-told
returns-in_err-check-clause-told g c = λ s. asks_nothing

-- no goal is cut as a cycle: the search began with an empty stack
pub returns-clause-refuted : goal.returns-clause-refuted
returns-clause-refuted g c = λ s no.
    let run = c.try_evaluate_goals-evaluated.ensures in
    let refused : c.try_evaluate_goals-evaluated.result ≡ Err EvalError.NoSolution = search rules in
    let told = tell_begun c.new-graph.result (ruling_since (λ ts. g.H.GoalHandler.handler ts c.args.self.now.handler.now) s) c.args.self.now.cx.now.nodes c.new-graph.ensures.empty in
    let self = c.args.self.now in
    subst (RefusesAmong (ruling_since (λ ts. g.H.GoalHandler.handler ts self.handler.now) s) self.table.now.mode self.cx.now.nodes (content_of self.cx.now.nodes self.table.now.entries)) c.take_goals-goals.ensures.goals
    (stopped_root c.new-graph.result kinds.Misc c.new-graph.ensures.empty (run.refuted s told refused))

-- the steps of the search that was begun
pub returns-clause-counts : goal.returns-clause-counts
returns-clause-counts g c = λ s none.
    let run = c.try_evaluate_goals-evaluated.ensures in
    let told = tell_begun c.new-graph.result (ruling_since (λ ts. g.H.GoalHandler.handler ts c.args.self.now.handler.now) s) c.args.self.now.cx.now.nodes c.new-graph.ensures.empty in
    let steps = sym (ap (λ (z : EvalState). z.last_steps) c.end_steps.ensures.state) in
    let left = sym (ap (λ (z : EvalState). z.nested_goals.items) c.end_steps.ensures.state) in
    let same = sym c.end_steps.ensures.same in
    rw (c.take_goals-goals.ensures.goals, same, steps, left) at (run.counts s told)
