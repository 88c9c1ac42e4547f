use Rattle.std.proofs.Common.{◌≡◌, inl, inr, ⊎_elim, Err, arith, rules, ◌+◌, ◌≤◌, length, refl, ap, ◌∙◌, subst, length-append, [], ◌∷◌, true, false}
use Rattle.std.specs.Prelude.{is_some}
use Rattle.std.proofs.lemmas.List.{take_all}
use Rattle.nts_model.specs.Derivations.Handlers.{meaning}
use Rattle.nts_store.proofs.Growing.{Extends-trans, Extends-refl}
use Rattle.nts_terms.specs.Modes.{mode_of}
use Rattle.nts_terms.proofs.Moved.{KeepsRest-trans, KeepsRest-refl}
use Rattle.nts_unify.specs.Reading.{content_of}
use Rattle.nts_table.specs.TableLaws.{IsTable-extended}
use Rattle.nts_candidates.specs.Offered.{path_kind_of, candidate_of}
use Rattle.nts_candidates.proofs.Results.{IfOk-map}
use Rattle.nts_canonical.specs.Building.{kinds_of}
use Rattle.nts_canonical.specs.Forms.{trees_of}
use Rattle.nts_response.specs.Forms.{response_at}
use Rattle.nts_meaning.specs.Meant.{ruling_since, meaning_since}
use Rattle.nts_meaning.proofs.AskedGoals.{trees_kept, ok_two, args_there, applicable, query_cut}
use Rattle.nts_meaning.proofs.AnsweredQueries.{args_later}
use Rattle.nts_trying.proofs.Labels.{only_same, content_same}
use Rattle.nts_meaning.proofs.Evaluating.{Goes-trans, Runs-trans, Runs-extends, rolled_back, Since-later, IsPosed-later, AreValues-later, IsCandidate-extended, goes-back}
use Rattle.nts_meaning.proofs.Running.{constraints-kept}
use Rattle.nts_theory.specs.Telling.{IsPlainResponse, SaysNothing}
use Rattle.nts_theory.specs.Telling.Tells.{tells_nothing, says_nothing}
use Rattle.nts_theory.specs.Telling.Fails.{is_unmet}
use Rattle.nts_theory.proofs.Refutation.PlainParts.{plain_is}
use Rattle.nts_model.specs.Refutation.Choosing.{IsCandidateMet}
use Rattle.nts_trying.proofs.Opened.{nothing_through, labels_through, labels_entered, opened_holds, outlives_told, outlives_through}
use Rattle.nts_decisions.proofs.OpenedStatements.{trait_outlives_nothing}
use Rattle.nts_trying.proofs.Probed.{found_in, went_in, doubtful}
use Rattle.nts_trying.proofs.Outcomes.{founds_with, found_merged, told_merged}
use Rattle.nts_model.specs.Derivations.Proofs.{passed}
use Rattle.nts_meaning.specs.Searching.{assumed_in}
use Rattle.nts_meaning.proofs.Searching.{Searches-refl, Searches-trans, search_later, search_grown, covers_grown, served_more, tell_grown, search_marked_again, input_stands, later_long}
use Rattle.nts_search.specs.declared.stack.StackEntry.{StackEntry}
use Rattle.nts_canonical.specs.declared.types.CanonicalInput.{CanonicalInput}
use Rattle.nts_meaning.specs.Answering.{IsAnswerTo, is_yes}
use Rattle.nts_asking.specs.Rounds.{rounds_before}
use Rattle.nts_evaluation.proofs.Entered.{not_entered}
use Rattle.nts_meaning.proofs.Rounds.{entry_held, grown, ran, search_then, entry_of, cycle_told, cycle_refuted, cycle_derived}
use Rattle.nts_store.specs.declared.fault.EvalError.TheVariants as EvalError
use Rattle.std.specs.Result.{is_err}
use Rattle.std.proofs.lemmas.Result.{IfOk-from_err}
use Rattle.nts_evaluation.proofs.Failing.{query_failed, goal_failed, try_failed}
use Rattle.nts_evaluation.proofs.evaluate.+evaluate.Goals.{queries::search-then-graph, queries::search-else-graph}
use Rattle.nts_evaluation.proofs.Deciding.{decides_fault, decides_error, decides_refused, decides_then, decides_grown, same_search}
use Rattle.nts_evaluation.proofs.DecidedCandidates.{all_merged, facts_merged}
use Rattle.nts_meaning.proofs.Searching.{nothing_stands}
use Rattle.nts_evaluation.proofs.FactQueries.{fact_query}
use Rattle.nts_evaluation.proofs.FactTrials.{fact_asked}
use Rattle.nts_evaluation.proofs.DecidedTrials.{refused_no}
use Rattle.nts_evaluation.proofs.DecidedGoals.{is_opened, is_asked_here, outlives_in, states_own, judged_not_region, way_states_own, way_not_region, sure_yes}
use Rattle.nts_evaluation.proofs.DecidedRounds.{stands_high, as_query, marked_again}
use Rattle.nts_evaluation.proofs.evaluate.+evaluate.Goals as goal
use Rattle.nts_evaluation.proofs.evaluate.+evaluate.Answers.Queries as queries
use Rattle.nts_evaluation.proofs.evaluate.+evaluate.Answers.Candidates as candidates
use Rattle.nts_evaluation.proofs.evaluate.+evaluate.Answers.Steps as steps
use Rattle.nts_evaluation.proofs.evaluate.+evaluate.Answers.Own as own
use Rattle.nts_evaluation.proofs.evaluate.+evaluate.Answers.Subtypes as subtypes
use Rattle.nts_evaluation.proofs.evaluate.+evaluate.Answers.Aliases as aliases
use Rattle.nts_evaluation.proofs.evaluate.+evaluate.Answers.Equated as equated
use Rattle.nts_evaluation.proofs.evaluate.+evaluate.Answers.Relating as relating
mod Queries
mod Candidates
mod Steps
mod Own
mod Subtypes
mod Aliases
mod Equated
mod Relating

pub rows::compute_goal-evaluate_candidates-response-requires : goal.rows::compute_goal-evaluate_candidates-response-requires
rows::compute_goal-evaluate_candidates-response-requires = candidates.rows::compute_goal-evaluate_candidates-response-requires

pub rows::compute_goal-goal_row-requires : goal.rows::compute_goal-goal_row-requires
rows::compute_goal-goal_row-requires g t c = opened_holds _ _ c.in_ok-opened.opened c.in_ok-opened.ensures.posed

pub rows::compute_goal-boxed_response-requires-clause-values : goal.rows::compute_goal-boxed_response-requires-clause-values
rows::compute_goal-boxed_response-requires-clause-values g t c =
    let o = c.in_ok-opened.ensures in
    args_later c.args.cx.now.nodes c.enter_forall.new.cx.nodes c.args.table.now.entries c.enter_forall.new.table.entries c.args.values.now o.goes.extends o.goes.continues c.requires.values

pub rows::compute_goal-boxed_response-requires-in-Unanswered-clause-values : goal.rows::compute_goal-boxed_response-requires-in-Unanswered-clause-values
rows::compute_goal-boxed_response-requires-in-Unanswered-clause-values g t c =
    let o = c.in_ok-opened.ensures in
    args_later c.args.cx.now.nodes c.enter_forall.new.cx.nodes c.args.table.now.entries c.enter_forall.new.table.entries c.args.values.now o.goes.extends o.goes.continues c.requires.values

pub rows::compute_goal-returns : goal.rows::compute_goal-returns
rows::compute_goal-returns = candidates.rows::compute_goal-returns

pub rows::compute_goal-returns-in-Unopened : goal.rows::compute_goal-returns-in-Unopened
rows::compute_goal-returns-in-Unopened g t c =
    let o = c.in_ok-opened.ensures in
    let r = c.in_ok-response-in-Unopened.ensures in
    let trees = trees_kept c.args.cx.now.nodes c.enter_forall.new.cx.nodes c.args.table.now.entries c.args.values.now o.grows.extends c.requires.values in
    let plain : IsPlainResponse (content_of c.enter_forall.new.cx.nodes c.enter_forall.new.table.entries) (trees_of c.enter_forall.new.cx.nodes c.args.values.now) (response_at c.boxed_response.new.cx.nodes c.in_ok-response-in-Unopened.response.value) = c.in_ok-response-in-Unopened.ensures.says in
    record {
      grows = search rules;
      searches = Searches-refl c.args.depth c.requires.search (grown c.in_ok-opened.ensures.grows c.in_ok-response-in-Unopened.ensures.grows);
      found = found_in c.in_ok-response-in-Unopened.response.value _ o.goes c.terms_are_formed.ensures r.grows.extends (only_same _ o.grows.extends c.requires.posed.table (o.left (ap is_some c.in-Unopened.ensures))) c.requires.values r.certainty r.says r.holds (record { no_hidden = r.nothing.0; no_goals = r.nothing.1 }) (λ y. absurd (doubtful _ y));
      told = λ s tells ks. tells_nothing (content_of c.enter_forall.new.cx.nodes c.enter_forall.new.table.entries) (inl (content_same o.grows.extends c.requires.posed.table (o.left (ap is_some c.in-Unopened.ensures)))) (ap is_yes r.certainty) (rw trees at plain);
      refuted = search rules;
      decided = λ s n b d can.
          absurd (is_opened (g.H.GoalHandler.handler s.base c.args.handler.now) (g.met.H.GoalHandler.lawful s.base c.args.handler.now s.formed s.is_ready) (mode_of c.args.table.now.mode) n b c.args.goal c.args.values.now d.0 d.1 c.requires.posed c.terms_are_formed.ensures o.grows.extends (o.unopened (ap is_some c.in-Unopened.ensures)));
      facts = λ s tells f can. absurd (let shut = o.unopened (ap is_some c.in-Unopened.ensures) in let settled = f.settled in let some = shut.binds_some in let none = settled.binds_nothing in cc (some, none));
    }

pub rows::compute_goal-returns-in_err-candidates : goal.rows::compute_goal-returns-in_err-candidates
rows::compute_goal-returns-in_err-candidates g t c =
    goal_failed c.from_residual-in_err-candidates.result (search rules) (search rules) (search rules) (Searches-refl c.args.depth c.requires.search (grown c.in_ok-opened.ensures.grows c.relevant_candidates.ensures.grows))

pub rows::compute_goal-returns-in_err-opened : goal.rows::compute_goal-returns-in_err-opened
rows::compute_goal-returns-in_err-opened g t c =
    goal_failed c.from_residual.result (search rules) (search rules) (search rules) (Searches-refl c.args.depth c.requires.search c.enter_forall.ensures.grows)

pub rows::compute_goal-returns-in_err-response-in-Unopened : goal.rows::compute_goal-returns-in_err-response-in-Unopened
rows::compute_goal-returns-in_err-response-in-Unopened g t c =
    goal_failed c.from_residual-in_err-response-in-Unopened.result (search rules) (search rules) (search rules) (Searches-refl c.args.depth c.requires.search (grown c.in_ok-opened.ensures.grows c.boxed_response.ensures.grows))

pub rows::compute_goal-returns-in_err-response-in-Unanswered : goal.rows::compute_goal-returns-in_err-response-in-Unanswered
rows::compute_goal-returns-in_err-response-in-Unanswered g t c =
    goal_failed c.from_residual-in_err-response-in-Unanswered.result (search rules) (search rules) (search rules) (Searches-refl c.args.depth c.requires.search (grown c.in_ok-opened.ensures.grows c.boxed_response-in-Unanswered.ensures.grows))

pub rows::compute_goal-returns-in-Unanswered : goal.rows::compute_goal-returns-in-Unanswered
rows::compute_goal-returns-in-Unanswered g t c =
    let o = c.in_ok-opened.ensures in
    let r = c.in_ok-response-in-Unanswered.ensures in
    let trees = trees_kept c.args.cx.now.nodes c.enter_forall.new.cx.nodes c.args.table.now.entries c.args.values.now o.grows.extends c.requires.values in
    let plain : IsPlainResponse (content_of c.enter_forall.new.cx.nodes c.enter_forall.new.table.entries) (trees_of c.enter_forall.new.cx.nodes c.args.values.now) (response_at c.boxed_response-in-Unanswered.new.cx.nodes c.in_ok-response-in-Unanswered.response.value) = c.in_ok-response-in-Unanswered.ensures.says in
    record {
      grows = search rules;
      searches = Searches-refl c.args.depth c.requires.search (grown c.in_ok-opened.ensures.grows c.in_ok-response-in-Unanswered.ensures.grows);
      found = found_in c.in_ok-response-in-Unanswered.response.value _ o.goes c.terms_are_formed.ensures r.grows.extends (labels_entered c.requires.posed (rw c.in-Unanswered.ensures.0 at o.opened) o.grows.extends) c.requires.values r.certainty r.says r.holds (record { no_hidden = r.nothing.0; no_goals = r.nothing.1 }) (λ y. absurd (doubtful _ y));
      told = λ s tells. nothing_through c.requires.posed (rw c.in-Unanswered.ensures.0 at o.opened) o.grows.extends (ruling_since (λ ts. g.H.GoalHandler.handler ts c.args.handler.now) s) c.args.table.now.mode c.args.values.now _ c.in_ok-response-in-Unanswered.response.value trees (ap is_yes r.certainty) plain;
      refuted = search rules;
      decided = λ s n b d can.
          ⊎_elim
          (λ asked. absurd (c.in-Unanswered.ensures.1.not_asked asked))
          (λ w. absurd (⊎_elim (λ y. c.in-Unanswered.ensures.1.no_outlives _ (outlives_in y.says)) (λ v. c.in-Unanswered.ensures.1.not_own (⊎_elim (λ y. states_own y) (λ y. way_states_own y) v)) w))
          (is_asked_here (g.H.GoalHandler.handler s.base c.args.handler.now) (g.met.H.GoalHandler.lawful s.base c.args.handler.now s.formed s.is_ready) (mode_of c.args.table.now.mode) n b c.args.goal c.args.values.now d.0 d.1 c.requires.posed c.terms_are_formed.ensures o.grows.extends _ (rw c.in-Unanswered.ensures.0 at o.opened) (rw c.in-Unanswered.ensures.0 at o.posed));
      facts = λ s tells f can.
          let settled = f.settled in
          absurd (c.in-Unanswered.ensures.1.not_asked (fact_asked (g.H.GoalHandler.handler s.base c.args.handler.now) (mode_of c.args.table.now.mode) c.args.cx.now.nodes c.enter_forall.new.cx.nodes c.args.table.now c.enter_forall.new.table c.args.goal _ (rw c.in-Unanswered.ensures.0 at o.opened) settled c.requires.posed (rw c.in-Unanswered.ensures.0 at o.posed) o.grows.extends));
    }

pub rows::compute_goal-answer_outlives-requires-clause-posed : goal.rows::compute_goal-answer_outlives-requires-clause-posed
rows::compute_goal-answer_outlives-requires-clause-posed g t c = rw c.in-Outlives.ensures.0 at c.in_ok-opened.ensures.posed

pub rows::compute_goal-answer_outlives-requires-clause-outlives : goal.rows::compute_goal-answer_outlives-requires-clause-outlives
rows::compute_goal-answer_outlives-requires-clause-outlives g t c = c.in-Outlives.ensures.1

pub rows::compute_goal-answer_outlives-requires-clause-values : goal.rows::compute_goal-answer_outlives-requires-clause-values
rows::compute_goal-answer_outlives-requires-clause-values g t c =
    let o = c.in_ok-opened.ensures in
    args_later c.args.cx.now.nodes c.enter_forall.new.cx.nodes c.args.table.now.entries c.enter_forall.new.table.entries c.args.values.now o.goes.extends o.goes.continues c.requires.values

pub rows::compute_goal-returns-in_err-response-in-Outlives : goal.rows::compute_goal-returns-in_err-response-in-Outlives
rows::compute_goal-returns-in_err-response-in-Outlives g t c =
    goal_failed c.from_residual-in_err-response-in-Outlives.result (search rules) (search rules) (search rules) (Searches-refl c.args.depth c.requires.search (grown c.in_ok-opened.ensures.grows c.answer_outlives.ensures.grows))

pub rows::compute_goal-returns-in-Outlives : goal.rows::compute_goal-returns-in-Outlives
rows::compute_goal-returns-in-Outlives g t c =
    let o = c.in_ok-opened.ensures in
    let r = c.in_ok-response-in-Outlives.ensures in
    let f = r.found in
    let opened = rw c.in-Outlives.ensures.0 at o.opened in
    let posed = rw c.in-Outlives.ensures.0 at o.posed in
    let says = c.in-Outlives.ensures.1 in
    let trees = trees_kept c.args.cx.now.nodes c.enter_forall.new.cx.nodes c.args.table.now.entries c.args.values.now o.grows.extends c.requires.values in
    record {
      grows = search rules;
      searches = Searches-refl c.args.depth c.requires.search (grown o.grows r.grows);
      found = record {
        store = f.store;
        after = f.after;
        formed = f.formed;
        goes = Goes-trans o.goes f.goes;
        labels = labels_through c.requires.posed opened o.grows.extends f.labels;
        extends = f.extends;
        says = rw trees at f.says;
        holds = f.holds;
        no_more = f.no_more;
        sure = λ y s. outlives_through c.requires.posed opened o.grows.extends (meaning (g.H.GoalHandler.handler s.base c.args.handler.now) s.variances) (mode_of c.args.table.now.mode) (assumed_in c.answer_outlives.new.cx.nodes c.args.graph.now) c.in-Outlives.outlives posed says f.goes (let z = Goes-trans o.goes f.goes in z.continues) f.formed (f.sure y);
      };
      told = λ s tells. outlives_told c.requires.posed opened o.grows.extends c.in-Outlives.outlives says (ruling_since (λ ts. g.H.GoalHandler.handler ts c.args.handler.now) s) c.args.table.now.mode c.args.values.now _ c.in_ok-response-in-Outlives.response.value trees r.told;
      refuted = search rules;
      decided = λ s n b d can.
          ⊎_elim
          (λ asked. absurd (trait_outlives_nothing _ _ (let z = asked.trait_goal in z.statement) (let z = says.is in z.says)))
          (λ w. ⊎_elim (λ y. record { answer = (y.yes, sure_yes _ (let z = r.told in z.sure)); search = same_search _ }) (λ v. absurd (⊎_elim (λ y. judged_not_region _ (let z = says.is in z.says) y) (λ y. way_not_region y _ (let z = says.is in z.says)) v)) w)
          (is_asked_here (g.H.GoalHandler.handler s.base c.args.handler.now) (g.met.H.GoalHandler.lawful s.base c.args.handler.now s.formed s.is_ready) (mode_of c.args.table.now.mode) n b c.args.goal c.args.values.now d.0 d.1 c.requires.posed c.terms_are_formed.ensures o.grows.extends _ opened posed);
      facts = λ s tells f can.
          let settled = f.settled in
          let asked = fact_asked (g.H.GoalHandler.handler s.base c.args.handler.now) (mode_of c.args.table.now.mode) c.args.cx.now.nodes c.enter_forall.new.cx.nodes c.args.table.now c.enter_forall.new.table c.args.goal _ opened settled c.requires.posed posed o.grows.extends in
          absurd (trait_outlives_nothing _ _ (let z = asked.trait_goal in z.statement) (let z = says.is in z.says));
    }

pub rows::compute_goal-evaluate_subtype-response-requires : goal.rows::compute_goal-evaluate_subtype-response-requires
rows::compute_goal-evaluate_subtype-response-requires = subtypes.rows::compute_goal-evaluate_subtype-response-requires

pub rows::compute_goal-returns-in-Subtype : goal.rows::compute_goal-returns-in-Subtype
rows::compute_goal-returns-in-Subtype = subtypes.rows::compute_goal-returns-in-Subtype

pub rows::evaluate_subtype-returns-in_err-snapshot : goal.rows::evaluate_subtype-returns-in_err-snapshot
rows::evaluate_subtype-returns-in_err-snapshot = subtypes.rows::evaluate_subtype-returns-in_err-snapshot

pub rows::evaluate_subtype-returns-in_err-left : goal.rows::evaluate_subtype-returns-in_err-left
rows::evaluate_subtype-returns-in_err-left = subtypes.rows::evaluate_subtype-returns-in_err-left

pub rows::evaluate_subtype-boxed_response-requires-clause-values : goal.rows::evaluate_subtype-boxed_response-requires-clause-values
rows::evaluate_subtype-boxed_response-requires-clause-values = subtypes.rows::evaluate_subtype-boxed_response-requires-clause-values

pub rows::evaluate_subtype-returns-in_err-joined : goal.rows::evaluate_subtype-returns-in_err-joined
rows::evaluate_subtype-returns-in_err-joined = subtypes.rows::evaluate_subtype-returns-in_err-joined

pub rows::evaluate_subtype-returns-in_default : goal.rows::evaluate_subtype-returns-in_default
rows::evaluate_subtype-returns-in_default = subtypes.rows::evaluate_subtype-returns-in_default

pub rows::evaluate_subtype-try_evaluate_goals-requires : goal.rows::evaluate_subtype-try_evaluate_goals-requires
rows::evaluate_subtype-try_evaluate_goals-requires = subtypes.rows::evaluate_subtype-try_evaluate_goals-requires

pub rows::evaluate_subtype-returns-in_err-certainty : goal.rows::evaluate_subtype-returns-in_err-certainty
rows::evaluate_subtype-returns-in_err-certainty = subtypes.rows::evaluate_subtype-returns-in_err-certainty

pub rows::evaluate_subtype-boxed_response-requires-then-keeps_constraints-clause-values : goal.rows::evaluate_subtype-boxed_response-requires-then-keeps_constraints-clause-values
rows::evaluate_subtype-boxed_response-requires-then-keeps_constraints-clause-values = subtypes.rows::evaluate_subtype-boxed_response-requires-then-keeps_constraints-clause-values

pub rows::evaluate_subtype-returns-in_err-response : goal.rows::evaluate_subtype-returns-in_err-response
rows::evaluate_subtype-returns-in_err-response = subtypes.rows::evaluate_subtype-returns-in_err-response

pub rows::evaluate_subtype-returns-then-keeps_constraints : goal.rows::evaluate_subtype-returns-then-keeps_constraints
rows::evaluate_subtype-returns-then-keeps_constraints = subtypes.rows::evaluate_subtype-returns-then-keeps_constraints

pub rows::evaluate_subtype-boxed_response-requires-2-clause-values : goal.rows::evaluate_subtype-boxed_response-requires-2-clause-values
rows::evaluate_subtype-boxed_response-requires-2-clause-values = subtypes.rows::evaluate_subtype-boxed_response-requires-2-clause-values

pub rows::evaluate_subtype-returns-in_err-response-2 : goal.rows::evaluate_subtype-returns-in_err-response-2
rows::evaluate_subtype-returns-in_err-response-2 = subtypes.rows::evaluate_subtype-returns-in_err-response-2

pub rows::evaluate_subtype-returns : goal.rows::evaluate_subtype-returns
rows::evaluate_subtype-returns = subtypes.rows::evaluate_subtype-returns

pub rows::compute_goal-evaluate_alias-response-requires : goal.rows::compute_goal-evaluate_alias-response-requires
rows::compute_goal-evaluate_alias-response-requires = aliases.rows::compute_goal-evaluate_alias-response-requires

pub rows::compute_goal-returns-in-Alias : goal.rows::compute_goal-returns-in-Alias
rows::compute_goal-returns-in-Alias = aliases.rows::compute_goal-returns-in-Alias

pub rows::evaluate_alias-evaluate_candidates-requires : goal.rows::evaluate_alias-evaluate_candidates-requires
rows::evaluate_alias-evaluate_candidates-requires = aliases.rows::evaluate_alias-evaluate_candidates-requires

pub rows::evaluate_alias-returns : goal.rows::evaluate_alias-returns
rows::evaluate_alias-returns = aliases.rows::evaluate_alias-returns

pub rows::evaluate_alias-returns-in_err-candidates : goal.rows::evaluate_alias-returns-in_err-candidates
rows::evaluate_alias-returns-in_err-candidates = aliases.rows::evaluate_alias-returns-in_err-candidates

pub rows::compute_goal-evaluate_equated-response-requires : goal.rows::compute_goal-evaluate_equated-response-requires
rows::compute_goal-evaluate_equated-response-requires = equated.rows::compute_goal-evaluate_equated-response-requires

pub rows::compute_goal-returns-in-Equated : goal.rows::compute_goal-returns-in-Equated
rows::compute_goal-returns-in-Equated = equated.rows::compute_goal-returns-in-Equated

pub rows::compute_goal-returns-in_err-doubt-in-Equated : goal.rows::compute_goal-returns-in_err-doubt-in-Equated
rows::compute_goal-returns-in_err-doubt-in-Equated = equated.rows::compute_goal-returns-in_err-doubt-in-Equated

pub rows::compute_goal-boxed_response-requires-then-not-is_open_to_normalizing-clause-values : goal.rows::compute_goal-boxed_response-requires-then-not-is_open_to_normalizing-clause-values
rows::compute_goal-boxed_response-requires-then-not-is_open_to_normalizing-clause-values = equated.rows::compute_goal-boxed_response-requires-then-not-is_open_to_normalizing-clause-values

pub rows::compute_goal-returns-then-not-is_open_to_normalizing : goal.rows::compute_goal-returns-then-not-is_open_to_normalizing
rows::compute_goal-returns-then-not-is_open_to_normalizing = equated.rows::compute_goal-returns-then-not-is_open_to_normalizing

pub equated::evaluate_equated-returns-then-not-matches : goal.equated::evaluate_equated-returns-then-not-matches
equated::evaluate_equated-returns-then-not-matches = equated.equated::evaluate_equated-returns-then-not-matches

pub equated::evaluate_equated-evaluate_way-requires : goal.equated::evaluate_equated-evaluate_way-requires
equated::evaluate_equated-evaluate_way-requires = equated.equated::evaluate_equated-evaluate_way-requires

pub equated::evaluate_equated-returns-in-Some : goal.equated::evaluate_equated-returns-in-Some
equated::evaluate_equated-returns-in-Some = equated.equated::evaluate_equated-returns-in-Some

pub equated::evaluate_equated-returns : goal.equated::evaluate_equated-returns
equated::evaluate_equated-returns = equated.equated::evaluate_equated-returns

pub equated::evaluate_way-returns-in_err-snapshot : goal.equated::evaluate_way-returns-in_err-snapshot
equated::evaluate_way-returns-in_err-snapshot = equated.equated::evaluate_way-returns-in_err-snapshot

pub equated::evaluate_way-returns-in-Err : goal.equated::evaluate_way-returns-in-Err
equated::evaluate_way-returns-in-Err = equated.equated::evaluate_way-returns-in-Err

pub equated::evaluate_way-boxed_response-response-requires-clause-values : goal.equated::evaluate_way-boxed_response-response-requires-clause-values
equated::evaluate_way-boxed_response-response-requires-clause-values = equated.equated::evaluate_way-boxed_response-response-requires-clause-values

pub equated::evaluate_way-returns-in_err-response : goal.equated::evaluate_way-returns-in_err-response
equated::evaluate_way-returns-in_err-response = equated.equated::evaluate_way-returns-in_err-response

pub equated::evaluate_way-returns-then-keeps_constraints : goal.equated::evaluate_way-returns-then-keeps_constraints
equated::evaluate_way-returns-then-keeps_constraints = equated.equated::evaluate_way-returns-then-keeps_constraints

pub equated::evaluate_way-boxed_response-requires-clause-values : goal.equated::evaluate_way-boxed_response-requires-clause-values
equated::evaluate_way-boxed_response-requires-clause-values = equated.equated::evaluate_way-boxed_response-requires-clause-values

pub equated::evaluate_way-returns-in_err-response-2 : goal.equated::evaluate_way-returns-in_err-response-2
equated::evaluate_way-returns-in_err-response-2 = equated.equated::evaluate_way-returns-in_err-response-2

pub equated::evaluate_way-returns : goal.equated::evaluate_way-returns
equated::evaluate_way-returns = equated.equated::evaluate_way-returns

pub equated::try_way-returns-in_err-goals : goal.equated::try_way-returns-in_err-goals
equated::try_way-returns-in_err-goals = equated.equated::try_way-returns-in_err-goals

pub equated::try_way-try_evaluate_goals-requires : goal.equated::try_way-try_evaluate_goals-requires
equated::try_way-try_evaluate_goals-requires = equated.equated::try_way-try_evaluate_goals-requires

pub equated::try_way-returns-in_err-certainty : goal.equated::try_way-returns-in_err-certainty
equated::try_way-returns-in_err-certainty = equated.equated::try_way-returns-in_err-certainty

pub equated::try_way-returns : goal.equated::try_way-returns
equated::try_way-returns = equated.equated::try_way-returns

pub rows::compute_goal-evaluate_own-response-requires : goal.rows::compute_goal-evaluate_own-response-requires
rows::compute_goal-evaluate_own-response-requires = own.rows::compute_goal-evaluate_own-response-requires

pub rows::compute_goal-returns-in-Own : goal.rows::compute_goal-returns-in-Own
rows::compute_goal-returns-in-Own = own.rows::compute_goal-returns-in-Own

pub rows::evaluate_own-judge-requires-clause-plain : goal.rows::evaluate_own-judge-requires-clause-plain
rows::evaluate_own-judge-requires-clause-plain = own.rows::evaluate_own-judge-requires-clause-plain

pub rows::evaluate_own-returns-in_err-judged : goal.rows::evaluate_own-returns-in_err-judged
rows::evaluate_own-returns-in_err-judged = own.rows::evaluate_own-returns-in_err-judged

pub rows::evaluate_own-boxed_response-requires-clause-table : goal.rows::evaluate_own-boxed_response-requires-clause-table
rows::evaluate_own-boxed_response-requires-clause-table = own.rows::evaluate_own-boxed_response-requires-clause-table

pub rows::evaluate_own-boxed_response-requires-clause-values : goal.rows::evaluate_own-boxed_response-requires-clause-values
rows::evaluate_own-boxed_response-requires-clause-values = own.rows::evaluate_own-boxed_response-requires-clause-values

pub rows::evaluate_own-returns-in_err-response-in-Yes : goal.rows::evaluate_own-returns-in_err-response-in-Yes
rows::evaluate_own-returns-in_err-response-in-Yes = own.rows::evaluate_own-returns-in_err-response-in-Yes

pub rows::evaluate_own-boxed_response-requires-in-Unknown-clause-table : goal.rows::evaluate_own-boxed_response-requires-in-Unknown-clause-table
rows::evaluate_own-boxed_response-requires-in-Unknown-clause-table = own.rows::evaluate_own-boxed_response-requires-in-Unknown-clause-table

pub rows::evaluate_own-boxed_response-requires-in-Unknown-clause-values : goal.rows::evaluate_own-boxed_response-requires-in-Unknown-clause-values
rows::evaluate_own-boxed_response-requires-in-Unknown-clause-values = own.rows::evaluate_own-boxed_response-requires-in-Unknown-clause-values

pub rows::evaluate_own-returns-in_err-response-in-Unknown : goal.rows::evaluate_own-returns-in_err-response-in-Unknown
rows::evaluate_own-returns-in_err-response-in-Unknown = own.rows::evaluate_own-returns-in_err-response-in-Unknown

pub rows::evaluate_own-probe_candidate-response-requires : goal.rows::evaluate_own-probe_candidate-response-requires
rows::evaluate_own-probe_candidate-response-requires = own.rows::evaluate_own-probe_candidate-response-requires

pub rows::evaluate_own-returns-in-No : goal.rows::evaluate_own-returns-in-No
rows::evaluate_own-returns-in-No = own.rows::evaluate_own-returns-in-No

pub rows::evaluate_own-returns-in_ok-response-in-Yes : goal.rows::evaluate_own-returns-in_ok-response-in-Yes
rows::evaluate_own-returns-in_ok-response-in-Yes = own.rows::evaluate_own-returns-in_ok-response-in-Yes

pub rows::evaluate_own-returns-in_ok-response-in-Unknown : goal.rows::evaluate_own-returns-in_ok-response-in-Unknown
rows::evaluate_own-returns-in_ok-response-in-Unknown = own.rows::evaluate_own-returns-in_ok-response-in-Unknown

pub rows::evaluate_own-returns-in-Way : goal.rows::evaluate_own-returns-in-Way
rows::evaluate_own-returns-in-Way = own.rows::evaluate_own-returns-in-Way

pub steps::evaluate_added-evaluate_goal-requires : goal.steps::evaluate_added-evaluate_goal-requires
steps::evaluate_added-evaluate_goal-requires = steps.steps::evaluate_added-evaluate_goal-requires

pub steps::evaluate_added-returns-in_err-asked : goal.steps::evaluate_added-returns-in_err-asked
steps::evaluate_added-returns-in_err-asked = steps.steps::evaluate_added-returns-in_err-asked

pub steps::evaluate_added-returns-in-Some : goal.steps::evaluate_added-returns-in-Some
steps::evaluate_added-returns-in-Some = steps.steps::evaluate_added-returns-in-Some

pub steps::evaluate_added-returns-in-None : goal.steps::evaluate_added-returns-in-None
steps::evaluate_added-returns-in-None = steps.steps::evaluate_added-returns-in-None

pub steps::evaluate_added-returns-in-Some-next : goal.steps::evaluate_added-returns-in-Some-next
steps::evaluate_added-returns-in-Some-next = steps.steps::evaluate_added-returns-in-Some-next

pub candidates::evaluate_candidates-loop-candidate-init : goal.candidates::evaluate_candidates-loop-candidate-init
candidates::evaluate_candidates-loop-candidate-init = candidates.candidates::evaluate_candidates-loop-candidate-init

pub candidates::evaluate_candidates-loop-candidate-preserved : goal.candidates::evaluate_candidates-loop-candidate-preserved
candidates::evaluate_candidates-loop-candidate-preserved = candidates.candidates::evaluate_candidates-loop-candidate-preserved

pub candidates::evaluate_candidates-merge_responses-requires-clause-table : goal.candidates::evaluate_candidates-merge_responses-requires-clause-table
candidates::evaluate_candidates-merge_responses-requires-clause-table g t c = (let i = c.loop-candidate.invariant in let goes = goes-back c.requires.posed.table i.grows.extends i.same in goes.table)

pub candidates::evaluate_candidates-merge_responses-requires-clause-values : goal.candidates::evaluate_candidates-merge_responses-requires-clause-values
candidates::evaluate_candidates-merge_responses-requires-clause-values g t c =
    let i = c.loop-candidate.invariant in
    let goes = goes-back c.requires.posed.table i.grows.extends i.same in
    args_later c.args.cx.now.nodes c.loop-candidate.cx.nodes c.args.table.now.entries c.loop-candidate.table.entries c.args.values.now goes.extends goes.continues c.requires.values

pub candidates::evaluate_candidates-probe_candidate-answer-requires : goal.candidates::evaluate_candidates-probe_candidate-answer-requires
candidates::evaluate_candidates-probe_candidate-answer-requires = candidates.candidates::evaluate_candidates-probe_candidate-answer-requires

pub candidates::evaluate_candidates-returns : goal.candidates::evaluate_candidates-returns
candidates::evaluate_candidates-returns g t c =
    let i = c.loop-candidate.invariant in
    let k = c.merge_responses.ensures in
    let now = search_later c.args.depth c.args.depth (omega arith) c.requires.search i.searches in
    let covers = covers_grown c.args.depth now k.grows in
    let all = take_all c.loop-candidate.candidate-index c.args.candidates.now c.loop-candidate-test.false in
    record {
      same = search rules;
      grows = search rules;
      searches = let i = c.loop-candidate.invariant in search_grown c.args.depth c.requires.search i.searches c.merge_responses.ensures.grows;
      found = IfOk-map c.merge_responses.result (λ r f. found_merged c.loop-candidate.responses.items r.value i.grows.extends k.grows.extends c.terms_are_formed.ensures c.requires.posed.table c.requires.values (founds_with c.loop-candidate.responses.items (λ b u w s offered. served_more covers (w s offered)) i.found) f) (rw i.same at k.merged);
      told = λ s tells. IfOk-map c.merge_responses.result (λ r f. told_merged (ruling_since (λ ts. g.H.GoalHandler.handler ts c.args.handler.now) s) c.args.table.now.mode c.args.candidates.now c.loop-candidate.responses.items r.value i.grows.extends k.grows.extends c.requires.posed.table c.requires.values i.found (rw all at (i.told s tells)) f) (rw i.same at k.merged);
      refuted = search rules;
      decided = λ s n b d can.
          let goes = goes-back c.requires.posed.table i.grows.extends i.same in
          let trees = trees_kept c.args.cx.now.nodes c.loop-candidate.cx.nodes c.args.table.now.entries c.args.values.now i.grows.extends c.requires.values in
          let so_far = i.decided s n b d can in
          decides_then so_far.1
          (all_merged (g.H.GoalHandler.handler s.base c.args.handler.now) c.args.table.now.mode n c.args.cx.now.nodes c.args.table.now c.args.candidates.now c.loop-candidate.candidate-index b c.loop-candidate.cx.nodes c.merge_responses.new.cx.nodes c.loop-candidate.table c.args.goal c.args.values.now (omega (arith, c.loop-candidate-test.false)) d.0 trees i.found c.merge_responses.result so_far.0 k.merged k.no);
      facts = λ s tells q settled plain can.
          let trees = trees_kept c.args.cx.now.nodes c.loop-candidate.cx.nodes c.args.table.now.entries c.args.values.now i.grows.extends c.requires.values in
          let so_far = i.facts s tells q settled plain can in
          decides_then so_far.1
          (facts_merged (g.H.GoalHandler.handler s.base c.args.handler.now) c.args.table.now.mode c.args.cx.now.nodes c.args.table.now c.args.candidates.now c.loop-candidate.candidate-index c.loop-candidate.cx.nodes c.merge_responses.new.cx.nodes c.loop-candidate.table c.args.values.now (omega (arith, c.loop-candidate-test.false)) trees c.merge_responses.result so_far.0 k.merged k.no);
    }

pub candidates::evaluate_candidates-returns-in_err-keep_response : goal.candidates::evaluate_candidates-returns-in_err-keep_response
candidates::evaluate_candidates-returns-in_err-keep_response g t c =
    let fails : is_err c.from_residual.result ≡ true = search rules in
    try_failed c.from_residual.result fails (search rules) (λ m q settled plain can. decides_fault c.from_residual.result fails (search rules)) (search rules) (search rules) (Searches-trans c.loop-candidate.invariant.searches c.probe_candidate-answer.ensures.searches)

pub queries::evaluate_goal-apply_answer-evaluated-requires-clause-fits : goal.queries::evaluate_goal-apply_answer-evaluated-requires-clause-fits
queries::evaluate_goal-apply_answer-evaluated-requires-clause-fits g t c =
    let q = c.in_ok-originals.ensures in
    rw (c.deref.ensures.value, c.deref-2.ensures) (applicable c.requires.posed q.query q.grows.extends c.in_ok-answer.ensures.grows.extends c.in_ok-answer.answer.value c.in_ok-answer.ensures.fits)

pub queries::evaluate_goal-apply_answer-evaluated-requires-clause-originals : goal.queries::evaluate_goal-apply_answer-evaluated-requires-clause-originals
queries::evaluate_goal-apply_answer-evaluated-requires-clause-originals g t c =
    let q = c.in_ok-originals.ensures in
    rw c.deref.ensures.value (args_there c.requires.posed q.query q.grows.extends c.in_ok-answer.ensures.grows.extends)

pub queries::evaluate_goal-apply_answer-evaluated-requires-clause-table : goal.queries::evaluate_goal-apply_answer-evaluated-requires-clause-table
queries::evaluate_goal-apply_answer-evaluated-requires-clause-table g t c = IsTable-extended (Extends-trans c.in_ok-originals.ensures.grows.extends c.in_ok-answer.ensures.grows.extends) c.requires.posed.table

pub queries::evaluate_goal-returns : goal.queries::evaluate_goal-returns
queries::evaluate_goal-returns = queries.queries::evaluate_goal-returns

pub queries::evaluate_goal-returns-in_err-answer : goal.queries::evaluate_goal-returns-in_err-answer
queries::evaluate_goal-returns-in_err-answer g t c =
    let q = c.in_ok-originals.ensures in
    let k = c.search.ensures in
    let fails : is_err c.from_residual-in_err-answer.result ≡ true = search rules in
    record {
      runs = Runs-extends c.requires.posed.table (Extends-trans q.grows.extends k.grows.extends) (KeepsRest-trans q.grows.rest k.grows.rest);
      searches = let q = c.in_ok-originals.ensures in search_then (c.args.depth + 1) c.requires.search q.grows c.search.ensures.searches;
      err = search rules;
      labels = IfOk-from_err c.from_residual-in_err-answer.result _ fails;
      proved = λ s. IfOk-from_err c.from_residual-in_err-answer.result _ fails;
      told = λ s tells. IfOk-from_err c.from_residual-in_err-answer.result _ fails;
      refuted = λ s tells n.
          let h = ruling_since (λ ts. g.H.GoalHandler.handler ts c.args.handler.now) s in
          let refused : c.search.result ≡ Err EvalError.NoSolution = search rules in
          query_cut c.requires.posed q.query q.grows.extends c.search.ensures.grows.extends c.requires.search.stack c.requires.search.heads (c.search.ensures.refuted (Since-later q.grows s) (tell_grown h (c.args.depth + 1) c.requires.search q.grows tells) refused);
      decided = λ s n b d can.
          decides_error c.search.result c.from_residual-in_err-answer.result fails (λ no. (search rules)) (λ no. no)
          (c.search.ensures.decided (Since-later q.grows s) n b (as_query c.args.goal c.in_ok-originals.input.value n b q.query d) (decides_grown c.requires.search q.grows can));
      facts = λ s tells f never empty can.
          decides_error c.search.result c.from_residual-in_err-answer.result fails (λ no. (search rules)) (λ no. no)
          (c.search.ensures.facts (Since-later q.grows s) (tell_grown (ruling_since (λ ts. g.H.GoalHandler.handler ts c.args.handler.now) s) (c.args.depth + 1) c.requires.search q.grows tells) (fact_query c.args.goal c.in_ok-originals.input.value q.query f) (nothing_stands _ c.args.graph.now c.in_ok-originals.input.value empty) (decides_grown c.requires.search q.grows can));
    }

pub queries::evaluate_goal-returns-in_err-originals : goal.queries::evaluate_goal-returns-in_err-originals
queries::evaluate_goal-returns-in_err-originals g t c =
    let fails : is_err c.from_residual.result ≡ true = search rules in
    record {
      runs = Runs-extends c.requires.posed.table c.boxed_query.ensures.grows.extends c.boxed_query.ensures.grows.rest;
      searches = Searches-refl (c.args.depth + 1) c.requires.search c.boxed_query.ensures.grows;
      err = search rules;
      labels = IfOk-from_err c.from_residual.result _ fails;
      proved = λ s. IfOk-from_err c.from_residual.result _ fails;
      told = λ s tells. IfOk-from_err c.from_residual.result _ fails;
      refuted = search rules;
      decided = λ s n b d can. decides_fault c.from_residual.result fails (search rules);
      facts = λ s tells f never empty can. decides_fault c.from_residual.result fails (search rules);
    }

pub queries::evaluate_goal-search-requires : goal.queries::evaluate_goal-search-requires
queries::evaluate_goal-search-requires = queries.queries::evaluate_goal-search-requires

pub queries::evaluate_round-compute_goal-response-requires : goal.queries::evaluate_round-compute_goal-response-requires
queries::evaluate_round-compute_goal-response-requires = queries.queries::evaluate_round-compute_goal-response-requires

pub queries::evaluate_round-end_round-requires : goal.queries::evaluate_round-end_round-requires
queries::evaluate_round-end_round-requires g t c =
    let m = c.compute_goal-response.ensures in
    let long = later_long c.push_query.new.graph.stack.items c.compute_goal-response.new.graph.stack.items m.searches.later in
    let new = ap (length {A = StackEntry}) c.in_ok-push_query.ensures.pushed.1 in
    let more = length-append c.args.graph.now.stack.items (entry_of c.args.asked.value.input c.args.step c.args.asked.value.provisional (rounds_before c.args.asked.value + 1) c.in_ok-push_query.ensures.pushed.0 ∷ []) in
    omega (arith, long, new, more)

pub queries::evaluate_round-returns : goal.queries::evaluate_round-returns
queries::evaluate_round-returns = queries.queries::evaluate_round-returns

pub queries::evaluate_round-returns-in_err-push_query : goal.queries::evaluate_round-returns-in_err-push_query
queries::evaluate_round-returns-in_err-push_query g t c =
    let fails : is_err c.from_residual-in_err-push_query.result ≡ true = search rules in
    record {
      grows = search rules;
      searches = not_entered (c.args.depth + 1) (rounds_before c.args.asked.value + 1) c.requires.search (let limit = c.requires.limit in omega (arith, limit)) c.in_ok-table.ensures.grows c.in_err-push_query.ensures.err c.in_err-push_query.ensures.err_kept c.push_query.ensures.rest;
      entry = IfOk-from_err c.from_residual-in_err-push_query.result _ fails;
      counted = IfOk-from_err c.from_residual-in_err-push_query.result _ fails;
      fits = IfOk-from_err c.from_residual-in_err-push_query.result _ fails;
      proved = λ s. IfOk-from_err c.from_residual-in_err-push_query.result _ fails;
      told = λ s tells told. IfOk-from_err c.from_residual-in_err-push_query.result _ fails;
      decided = λ s n b d can. IfOk-from_err c.from_residual-in_err-push_query.result _ fails;
      facts = λ s tells told f can. IfOk-from_err c.from_residual-in_err-push_query.result _ fails;
      no = search rules;
    }

pub queries::evaluate_round-returns-in_err-table : goal.queries::evaluate_round-returns-in_err-table
queries::evaluate_round-returns-in_err-table g t c =
    let fails : is_err c.from_residual.result ≡ true = search rules in
    record {
      grows = search rules;
      searches = Searches-refl (c.args.depth + 1) c.requires.search c.query_table.ensures.grows;
      entry = IfOk-from_err c.from_residual.result _ fails;
      counted = IfOk-from_err c.from_residual.result _ fails;
      fits = IfOk-from_err c.from_residual.result _ fails;
      proved = λ s. IfOk-from_err c.from_residual.result _ fails;
      told = λ s tells told. IfOk-from_err c.from_residual.result _ fails;
      decided = λ s n b d can. IfOk-from_err c.from_residual.result _ fails;
      facts = λ s tells told f can. IfOk-from_err c.from_residual.result _ fails;
      no = search rules;
    }

pub queries::evaluate_rounds-evaluate_round-requires : goal.queries::evaluate_rounds-evaluate_round-requires
queries::evaluate_rounds-evaluate_round-requires = queries.queries::evaluate_rounds-evaluate_round-requires

pub queries::evaluate_rounds-loop-round-init : goal.queries::evaluate_rounds-loop-round-init
queries::evaluate_rounds-loop-round-init = queries.queries::evaluate_rounds-loop-round-init

pub queries::evaluate_rounds-loop-round-preserved : goal.queries::evaluate_rounds-loop-round-preserved
queries::evaluate_rounds-loop-round-preserved = queries.queries::evaluate_rounds-loop-round-preserved

pub queries::evaluate_rounds-returns : goal.queries::evaluate_rounds-returns
queries::evaluate_rounds-returns g t c =
    record {
      grows = search rules;
      searches = let i = c.loop-round.invariant in search_grown (c.args.depth + 1) c.requires.search i.searches c.overflow_answer.ensures.grows;
      counted = λ none limit answered.
          let i = c.loop-round.invariant in
          let first = c.in_ok-asked.ensures.grows.rest.rounds in
          i.counted (omega (arith, limit, first, c.loop-round-test.false, c.round_limit-round-end.ensures));
      fits = let i = c.loop-round.invariant in subst (λ (w : CanonicalInput). IsAnswerTo c.overflow_answer.new.cx.nodes (kinds_of w) c.in_ok-answer.answer.value) i.input (rw c.deref-2.ensures at c.in_ok-answer.ensures.fits);
      proved = search rules;
      told = λ s tells. says_nothing (let i = c.loop-round.invariant in subst (λ (w : CanonicalInput). SaysNothing (kinds_of w) (response_at c.overflow_answer.new.cx.nodes c.in_ok-answer.answer.value)) i.input (rw c.deref-2.ensures at c.in_ok-answer.ensures.nothing));
      refuted = search rules;
      decided = λ s n b d can.
          let i = c.loop-round.invariant in
          let first = i.decided s n b d can in
          let grown_first = c.in_ok-asked.ensures.grows.rest.rounds in
          absurd (omega (arith, first, can.rounds, grown_first, c.loop-round-test.false, c.round_limit-round-end.ensures));
      facts = λ s tells f none can.
          let i = c.loop-round.invariant in
          let first = i.facts s tells f can in
          let grown_first = c.in_ok-asked.ensures.grows.rest.rounds in
          absurd (omega (arith, first, can.rounds, grown_first, c.loop-round-test.false, c.round_limit-round-end.ensures));
    }

pub queries::evaluate_rounds-returns-in_err-answer : goal.queries::evaluate_rounds-returns-in_err-answer
queries::evaluate_rounds-returns-in_err-answer g t c =
    query_failed c.from_residual-in_err-answer.result (search rules) (search rules) (search rules) (search_grown (c.args.depth + 1) c.requires.search c.loop-round.invariant.searches c.overflow_answer.ensures.grows)

pub queries::evaluate_rounds-returns-in_err-ended : goal.queries::evaluate_rounds-returns-in_err-ended
queries::evaluate_rounds-returns-in_err-ended g t c =
    let i = c.loop-round.invariant in
    query_failed c.from_residual-in_err-ended.result (search rules) (search rules) (grown c.loop-round.invariant.grows c.evaluate_round.ensures.grows) (Searches-trans i.searches c.evaluate_round.ensures.searches)

pub queries::evaluate_rounds-returns-in_err-asked-2 : goal.queries::evaluate_rounds-returns-in_err-asked-2
queries::evaluate_rounds-returns-in_err-asked-2 g t c =
    let i = c.loop-round.invariant in
    query_failed c.from_residual-in_err-asked-2.result (search rules) (search rules) (search rules) (Searches-trans i.searches c.in_ok-ended.ensures.searches)

pub queries::evaluate_rounds-returns-then-round_is_last : goal.queries::evaluate_rounds-returns-then-round_is_last
queries::evaluate_rounds-returns-then-round_is_last = queries.queries::evaluate_rounds-returns-then-round_is_last

pub queries::evaluate_rounds-round_is_last-requires-clause-answer : goal.queries::evaluate_rounds-round_is_last-requires-clause-answer
queries::evaluate_rounds-round_is_last-requires-clause-answer = queries.queries::evaluate_rounds-round_is_last-requires-clause-answer

pub queries::evaluate_rounds-round_is_last-requires-clause-entry : goal.queries::evaluate_rounds-round_is_last-requires-clause-entry
queries::evaluate_rounds-round_is_last-requires-clause-entry g t c =
    let i = c.loop-round.invariant in
    let e = c.in_ok-ended.ensures in
    rw c.deref.ensures (entry_held c.args.cx.now.nodes c.loop-round.cx.nodes c.evaluate_round.new.cx.nodes c.args.input.value c.loop-round.asked.value.input c.loop-round.asked.value.provisional c.in_ok-ended.ended.value.entry (Extends-trans i.grows.extends e.grows.extends) e.grows.extends i.input c.requires.input i.fits e.entry.0 e.entry.2)

pub queries::evaluate_rounds-returns-in_err-asked : goal.queries::evaluate_rounds-returns-in_err-asked
queries::evaluate_rounds-returns-in_err-asked g t c =
    query_failed c.from_residual.result (search rules) (search rules) (search rules) (Searches-refl (c.args.depth + 1) c.requires.search c.first_round.ensures.grows)

pub steps::evaluate_step-evaluate_added-requires : goal.steps::evaluate_step-evaluate_added-requires
steps::evaluate_step-evaluate_added-requires = steps.steps::evaluate_step-evaluate_added-requires

pub steps::evaluate_step-loop-added-init : goal.steps::evaluate_step-loop-added-init
steps::evaluate_step-loop-added-init = steps.steps::evaluate_step-loop-added-init

pub steps::evaluate_step-loop-added-preserved : goal.steps::evaluate_step-loop-added-preserved
steps::evaluate_step-loop-added-preserved = steps.steps::evaluate_step-loop-added-preserved

pub steps::evaluate_step-returns : goal.steps::evaluate_step-returns
steps::evaluate_step-returns = steps.steps::evaluate_step-returns

pub steps::evaluate_step-returns-in_err-answer : goal.steps::evaluate_step-returns-in_err-answer
steps::evaluate_step-returns-in_err-answer = steps.steps::evaluate_step-returns-in_err-answer

pub steps::evaluate_step-returns-in_err-note : goal.steps::evaluate_step-returns-in_err-note
steps::evaluate_step-returns-in_err-note = steps.steps::evaluate_step-returns-in_err-note

pub candidates::probe_candidate-boxed_response-requires-clause-values : goal.candidates::probe_candidate-boxed_response-requires-clause-values
candidates::probe_candidate-boxed_response-requires-clause-values = candidates.candidates::probe_candidate-boxed_response-requires-clause-values

pub candidates::probe_candidate-boxed_response-response-requires-clause-values : goal.candidates::probe_candidate-boxed_response-response-requires-clause-values
candidates::probe_candidate-boxed_response-response-requires-clause-values g t c =
    let p = c.requires.posed in
    let o = c.in_ok-snapshot.ensures in
    let r = c.in-Ok.ensures in
    let went = went_in p.table o.entries o.saved o.mode r.runs.goes in
    args_later c.args.cx.now.nodes c.run_candidate.new.cx.nodes c.args.table.now.entries c.run_candidate.new.table.entries c.args.values.now went.extends went.continues c.requires.values

pub candidates::probe_candidate-returns : goal.candidates::probe_candidate-returns
candidates::probe_candidate-returns = candidates.candidates::probe_candidate-returns

pub candidates::probe_candidate-returns-in_err-response-2 : goal.candidates::probe_candidate-returns-in_err-response-2
candidates::probe_candidate-returns-in_err-response-2 g t c =
    let fails : is_err c.from_residual-in_err-response-2.result ≡ true = search rules in
    try_failed c.from_residual-in_err-response-2.result fails (search rules) (λ m q plain. IfOk-from_err c.from_residual-in_err-response-2.result _ fails) (rolled_back c.in_ok-snapshot.ensures.saved c.in-Ok.ensures.runs.goes c.rollback_to-2.ensures.saved c.in_ok-snapshot.ensures.mode c.rollback_to-2.ensures.mode) (search rules) (search_grown c.args.depth c.requires.search c.in-Ok.ensures.searches c.boxed_response.ensures.grows)

pub candidates::probe_candidate-returns-in_err-response : goal.candidates::probe_candidate-returns-in_err-response
candidates::probe_candidate-returns-in_err-response g t c =
    let fails : is_err c.from_residual-in_err-response.result ≡ true = search rules in
    try_failed c.from_residual-in_err-response.result fails (search rules) (λ m q plain. IfOk-from_err c.from_residual-in_err-response.result _ fails) (rolled_back c.in_ok-snapshot.ensures.saved c.in-Ok.ensures.runs.goes c.rollback_to-then-keeps_constraints.ensures.saved c.in_ok-snapshot.ensures.mode c.rollback_to-then-keeps_constraints.ensures.mode) (search rules) (search_grown c.args.depth c.requires.search c.in-Ok.ensures.searches c.boxed_response-response.ensures.grows)

pub candidates::probe_candidate-returns-in_err-snapshot : goal.candidates::probe_candidate-returns-in_err-snapshot
candidates::probe_candidate-returns-in_err-snapshot g t c =
    let fails : is_err c.from_residual.result ≡ true = search rules in
    try_failed c.from_residual.result fails (search rules) (λ m q plain. IfOk-from_err c.from_residual.result _ fails) (search rules) (search rules) (Searches-refl c.args.depth c.requires.search (record { extends = Extends-refl _; rest = KeepsRest-refl _ }))

pub candidates::probe_candidate-returns-then-keeps_constraints : goal.candidates::probe_candidate-returns-then-keeps_constraints
candidates::probe_candidate-returns-then-keeps_constraints = candidates.candidates::probe_candidate-returns-then-keeps_constraints

pub candidates::run_candidate-check_leaks-requires-clause-table : goal.candidates::run_candidate-check_leaks-requires-clause-table
candidates::run_candidate-check_leaks-requires-clause-table g t c = (let e = c.try_candidate-tried.ensures in e.runs.goes.table)

pub candidates::run_candidate-check_leaks-requires-clause-ready : goal.candidates::run_candidate-check_leaks-requires-clause-ready
candidates::run_candidate-check_leaks-requires-clause-ready g t c =
    let e = c.try_candidate-tried.ensures in
    g.met.H.GoalHandler.ready_kept _ _ _ c.requires.ready e.runs.goes.extends

pub candidates::run_candidate-returns : goal.candidates::run_candidate-returns
candidates::run_candidate-returns = candidates.candidates::run_candidate-returns

pub candidates::run_candidate-try_candidate-tried-requires : goal.candidates::run_candidate-try_candidate-tried-requires
candidates::run_candidate-try_candidate-tried-requires g t c = λ κs k. (omega (arith, c.decreases), (k, (c.requires.posed, (c.requires.ready, (c.requires.candidate, c.requires.search)))))

pub candidates::try_candidate-added_goals-requires-clause-nested : goal.candidates::try_candidate-added_goals-requires-clause-nested
candidates::try_candidate-added_goals-requires-clause-nested g t c =
    let v = c.in_ok-values.ensures in
    let k = c.in_ok-record_constraints.ensures in
    let there = Runs-trans v.runs k.runs in
    let n = IsCandidate-extended there.goes.extends c.requires.posed.holds c.requires.candidate in
    rw (c.deref.ensures.value, c.deref-4.ensures.value) n.goals

pub candidates::try_candidate-added_goals-requires-clause-posed : goal.candidates::try_candidate-added_goals-requires-clause-posed
candidates::try_candidate-added_goals-requires-clause-posed g t c =
    let v = c.in_ok-values.ensures in
    let k = c.in_ok-record_constraints.ensures in
    let there = Runs-trans v.runs k.runs in
    IsPosed-later there.goes c.requires.posed

pub candidates::try_candidate-added_goals-requires-clause-values : goal.candidates::try_candidate-added_goals-requires-clause-values
candidates::try_candidate-added_goals-requires-clause-values g t c =
    let v = c.in_ok-values.ensures in
    let k = c.in_ok-record_constraints.ensures in
    rw (c.deref.ensures.value, c.deref-2.ensures.value) (AreValues-later k.runs.goes v.values)

pub candidates::try_candidate-record_constraints-requires-clause-constraints : goal.candidates::try_candidate-record_constraints-requires-clause-constraints
candidates::try_candidate-record_constraints-requires-clause-constraints g t c =
    let k = IsCandidate-extended c.in_ok-values.ensures.runs.goes.extends c.requires.posed.holds c.requires.candidate in
    rw (c.deref.ensures.value, c.deref-3.ensures.value) k.constraints

pub candidates::try_candidate-record_constraints-requires-clause-posed : goal.candidates::try_candidate-record_constraints-requires-clause-posed
candidates::try_candidate-record_constraints-requires-clause-posed g t c = IsPosed-later c.in_ok-values.ensures.runs.goes c.requires.posed

pub candidates::try_candidate-returns : goal.candidates::try_candidate-returns
candidates::try_candidate-returns = candidates.candidates::try_candidate-returns

pub candidates::try_candidate-returns-in_err-certainty : goal.candidates::try_candidate-returns-in_err-certainty
candidates::try_candidate-returns-in_err-certainty = candidates.candidates::try_candidate-returns-in_err-certainty

pub candidates::try_candidate-returns-in_err-goals : goal.candidates::try_candidate-returns-in_err-goals
candidates::try_candidate-returns-in_err-goals g t c =
    let v = c.in_ok-values.ensures in
    let k = c.in_ok-record_constraints.ensures in
    let there = Runs-trans v.runs k.runs in
    let n = c.added_goals.ensures in
    let fails : is_err c.from_residual-in_err-goals.result ≡ true = search rules in
    record {
      runs = Runs-trans there (Runs-extends k.runs.goes.table n.grows.extends n.grows.rest);
      searches = Searches-refl c.args.depth c.requires.search (grown (ran c.in_ok-values.ensures.runs) (grown (ran c.in_ok-record_constraints.ensures.runs) c.added_goals.ensures.grows));
      labels = IfOk-from_err c.from_residual-in_err-goals.result _ fails;
      proved = search rules;
      told = λ s tells. IfOk-from_err c.from_residual-in_err-goals.result _ fails;
      refuted = search rules;
      decided = λ s n b d can. decides_fault c.from_residual-in_err-goals.result fails (search rules);
    }

pub candidates::try_candidate-returns-in_err-record_constraints : goal.candidates::try_candidate-returns-in_err-record_constraints
candidates::try_candidate-returns-in_err-record_constraints g t c =
    let v = c.in_ok-values.ensures in
    let constraints = constraints-kept c.args.cx.now.nodes c.equate.new.cx.nodes c.args.candidate.now.fresh.items c.args.goal c.args.candidate.now.region_constraints.items v.runs.goes.extends c.requires.candidate.constraints in
    let fails : is_err c.from_residual-in_err-record_constraints.result ≡ true = search rules in
    record {
      runs = Runs-trans c.in_ok-values.ensures.runs c.record_constraints.ensures.runs;
      searches = Searches-refl c.args.depth c.requires.search (grown (ran c.in_ok-values.ensures.runs) (ran c.record_constraints.ensures.runs));
      labels = IfOk-from_err c.from_residual-in_err-record_constraints.result _ fails;
      proved = search rules;
      told = λ s tells. IfOk-from_err c.from_residual-in_err-record_constraints.result _ fails;
      refuted = search rules;
      decided = λ s n b d can. decides_fault c.from_residual-in_err-record_constraints.result fails (search rules);
    }

pub candidates::try_candidate-returns-in_err-values : goal.candidates::try_candidate-returns-in_err-values
candidates::try_candidate-returns-in_err-values g t c =
    let fails : is_err c.from_residual.result ≡ true = search rules in
    record {
      runs = search rules;
      searches = Searches-refl c.args.depth c.requires.search (ran c.equate.ensures.runs);
      labels = IfOk-from_err c.from_residual.result _ fails;
      proved = search rules;
      told = λ s tells. IfOk-from_err c.from_residual.result _ fails;
      refuted = λ s tells n.
          let no : c.equate.result ≡ Err EvalError.NoSolution = search rules in
          is_unmet (λ met. c.equate.ensures.unmet no (subst (IsCandidateMet (content_of c.args.cx.now.nodes c.args.table.now.entries)) (plain_is (candidate_of c.args.cx.now.nodes c.args.candidate.now) (c.needs_relating.ensures.no c.if-needs_relating.false)) met));
      decided = λ s n b d can.
          decides_refused c.from_residual.result fails
          (λ no.
          let refused : c.equate.result ≡ Err EvalError.NoSolution = search rules in
          refused_no d (c.equate.ensures.unmet refused)) (same_search _);
    }

pub queries::search-evaluate_rounds-answer-requires : goal.queries::search-evaluate_rounds-answer-requires
queries::search-evaluate_rounds-answer-requires = queries.queries::search-evaluate_rounds-answer-requires

pub queries::search-returns : goal.queries::search-returns
queries::search-returns g t c =
    let e = c.evaluate_rounds-answer.ensures in
    record {
      grows = e.grows;
      counted = e.counted;
      searches = search_marked_again false c.if-graph.graph e.searches (λ m. elim c.if-graph.branch [ queries::search-then-graph w ↦ w.graph-is ∙ w.if-graph.true | queries::search-else-graph w ↦ w.graph-is ∙ m ]);
      fits = e.fits;
      proved = e.proved;
      told = e.told;
      refuted = λ s tells no. elim (e.refuted s tells no) [
        | inl q ↦ inl q
        | inr x ↦ inr (record { head = x.head; below = x.below; same = x.same; path = x.path; elsewhere = x.elsewhere })
      ];
      decided = λ s n b d can.
          let x = e.decided s n b d (record { deep = can.deep; above = can.above; unmarked = refl; steps = can.steps; rounds = can.rounds; tight = can.tight; fair = can.fair }) in
          record {
            answer = x.answer;
            search = marked_again _ _ _ _ c.evaluate_rounds-answer.result x.search refl refl refl (λ m. elim c.if-graph.branch [ queries::search-then-graph w ↦ absurd (let yes = w.if-graph.true in cc (m, yes)) | queries::search-else-graph w ↦ w.graph-is ]);
          };
      facts = λ s tells f none can.
          let x = e.facts s tells f none (record { deep = can.deep; above = can.above; unmarked = refl; steps = can.steps; rounds = can.rounds; tight = can.tight; fair = can.fair }) in
          record {
            answer = x.answer;
            search = marked_again _ _ _ _ c.evaluate_rounds-answer.result x.search refl refl refl (λ m. elim c.if-graph.branch [ queries::search-then-graph w ↦ absurd (let yes = w.if-graph.true in cc (m, yes)) | queries::search-else-graph w ↦ w.graph-is ]);
          };
    }

pub queries::search-returns-in-Some : goal.queries::search-returns-in-Some
queries::search-returns-in-Some g t c =
    record {
      grows = search rules;
      searches = search rules;
      counted = λ none limit answered. absurd (input_stands c.args.cx.now.nodes c.args.graph.now c.args.input.value c.in-Some.head none (rw c.deref.ensures at c.in-Some.ensures.found));
      fits = search rules;
      proved = λ s. ok_two c.answer_cycle.result (λ r fits usable sure. cycle_derived (meaning_since (λ ts. g.H.GoalHandler.handler ts c.args.handler.now) s) (mode_of c.args.input.value.typing_mode) (passed (path_kind_of c.args.step) (assumed_in c.answer_cycle.new.cx.nodes c.answer_cycle.new.graph)) c.args.cx.now.nodes c.answer_cycle.new.cx.nodes c.args.input.value r.value c.requires.input fits (usable sure)) (rw c.deref-in-Some.ensures at c.answer_cycle.ensures.fits) (rw c.deref-in-Some.ensures at c.answer_cycle.ensures.usable);
      told = λ s tells. IfOk-map c.answer_cycle.result (λ r x. cycle_told (ruling_since (λ ts. g.H.GoalHandler.handler ts c.args.handler.now) s) c.in-Some.head (c.args.depth + 1) c.args.input.value c.requires.search c.answer_cycle.ensures.grows (rw c.deref.ensures at c.in-Some.ensures.found) tells r.value x) (rw c.deref-in-Some.ensures at c.answer_cycle.ensures.some);
      refuted = λ s tells no. cycle_refuted (ruling_since (λ ts. g.H.GoalHandler.handler ts c.args.handler.now) s) c.in-Some.head (c.args.depth + 1) c.args.input.value c.requires.search c.answer_cycle.ensures.grows (rw c.deref.ensures at c.in-Some.ensures.found) tells (rw c.deref-in-Some.ensures at (c.answer_cycle.ensures.none no));
      decided = λ s n b d can. absurd (stands_high (g.H.GoalHandler.handler s.base c.args.handler.now) c.args.cx.now.nodes n b c.args.graph.now c.args.input.value c.in-Some.head can.above (rw c.deref.ensures at c.in-Some.ensures.found) d);
      facts = λ s tells f none can. absurd (input_stands c.args.cx.now.nodes c.args.graph.now c.args.input.value c.in-Some.head none (rw c.deref.ensures at c.in-Some.ensures.found));
    }

pub steps::try_evaluate_goals-evaluate_step-requires : goal.steps::try_evaluate_goals-evaluate_step-requires
steps::try_evaluate_goals-evaluate_step-requires = steps.steps::try_evaluate_goals-evaluate_step-requires

pub steps::try_evaluate_goals-loop-step-init : goal.steps::try_evaluate_goals-loop-step-init
steps::try_evaluate_goals-loop-step-init = steps.steps::try_evaluate_goals-loop-step-init

pub steps::try_evaluate_goals-loop-step-preserved : goal.steps::try_evaluate_goals-loop-step-preserved
steps::try_evaluate_goals-loop-step-preserved = steps.steps::try_evaluate_goals-loop-step-preserved

pub steps::try_evaluate_goals-returns : goal.steps::try_evaluate_goals-returns
steps::try_evaluate_goals-returns = steps.steps::try_evaluate_goals-returns

pub steps::try_evaluate_goals-returns-in_err-stepped : goal.steps::try_evaluate_goals-returns-in_err-stepped
steps::try_evaluate_goals-returns-in_err-stepped = steps.steps::try_evaluate_goals-returns-in_err-stepped

pub steps::try_evaluate_goals-returns-then-not-stepped : goal.steps::try_evaluate_goals-returns-then-not-stepped
steps::try_evaluate_goals-returns-then-not-stepped = steps.steps::try_evaluate_goals-returns-then-not-stepped

pub candidates::try_relating-returns-in_err-begun : goal.candidates::try_relating-returns-in_err-begun
candidates::try_relating-returns-in_err-begun = relating.candidates::try_relating-returns-in_err-begun

pub candidates::try_relating-returns-in_err-certainty : goal.candidates::try_relating-returns-in_err-certainty
candidates::try_relating-returns-in_err-certainty = relating.candidates::try_relating-returns-in_err-certainty

pub candidates::try_relating-returns : goal.candidates::try_relating-returns
candidates::try_relating-returns = relating.candidates::try_relating-returns

pub candidates::try_relating-returns-then-not-may_ask : goal.candidates::try_relating-returns-then-not-may_ask
candidates::try_relating-returns-then-not-may_ask = relating.candidates::try_relating-returns-then-not-may_ask

pub candidates::try_candidate-try_relating-requires : goal.candidates::try_candidate-try_relating-requires
candidates::try_candidate-try_relating-requires g t c = λ κs k. (omega (arith, c.decreases), (k, (c.requires.posed, (c.requires.ready, (c.requires.candidate, (c.needs_relating.ensures.yes c.if-needs_relating.true, c.requires.search))))))

pub candidates::try_candidate-pose_asked-requires : goal.candidates::try_candidate-pose_asked-requires
candidates::try_candidate-pose_asked-requires = candidates.candidates::try_candidate-pose_asked-requires

pub candidates::try_candidate-try_evaluate_goals-requires : goal.candidates::try_candidate-try_evaluate_goals-requires
candidates::try_candidate-try_evaluate_goals-requires = candidates.candidates::try_candidate-try_evaluate_goals-requires

pub candidates::try_candidate-returns-in_err-kept : goal.candidates::try_candidate-returns-in_err-kept
candidates::try_candidate-returns-in_err-kept = candidates.candidates::try_candidate-returns-in_err-kept

pub candidates::try_relating-pose_asked-requires : goal.candidates::try_relating-pose_asked-requires
candidates::try_relating-pose_asked-requires = relating.candidates::try_relating-pose_asked-requires

pub candidates::try_relating-try_evaluate_goals-requires : goal.candidates::try_relating-try_evaluate_goals-requires
candidates::try_relating-try_evaluate_goals-requires = relating.candidates::try_relating-try_evaluate_goals-requires

pub candidates::try_relating-returns-in_err-kept : goal.candidates::try_relating-returns-in_err-kept
candidates::try_relating-returns-in_err-kept = relating.candidates::try_relating-returns-in_err-kept
