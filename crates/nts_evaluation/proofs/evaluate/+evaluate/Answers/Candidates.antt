-- Longer answers for the functions that answer a goal by its candidates.
use Rattle.std.proofs.Common.{◌≡◌, ◌⊎◌, inl, inr, Err, Ok, arith, rules, ◌+◌, map, length, get_or, refl, ap, sym, ◌∙◌, subst, ◌∷◌, true}
use Rattle.nts_model.specs.Derivations.Handlers.{meaning}
use Rattle.nts_model.proofs.Tables.Bringing.{only-trans}
use Rattle.nts_store.specs.Growth.{tree_at, AllIn}
use Rattle.nts_store.proofs.Growing.{Extends-trans, Extends-refl}
use Rattle.nts_terms.specs.Modes.{mode_of}
use Rattle.nts_terms.proofs.Moved.{KeepsRest-trans, KeepsRest-refl}
use Rattle.nts_unify.specs.Reading.{content_of}
use Rattle.nts_unify.specs.Lawful.{content_of-extended}
use Rattle.nts_delegate.specs.Candidates.{IsCandidate}
use Rattle.nts_candidates.specs.Offered.{certainty_of, candidate_of, premise_of, candidates_of}
use Rattle.nts_candidates.proofs.Results.{IfOk-map}
use Rattle.nts_canonical.specs.Forms.{trees_of}
use Rattle.nts_meaning.specs.Meant.{ruling_since, Since, rules_of}
use Rattle.nts_evaluation.proofs.AskedSteps.{joined, joined_fails}
use Rattle.nts_evaluation.proofs.PosedSteps.{posed_steps, kept_posed}
use Rattle.nts_evaluation.proofs.PutCandidates.{either_run}
use Rattle.nts_model.specs.Lists.{Among}
use Rattle.nts_model.specs.Derivations.Sequents.{Premise}
use Rattle.nts_model.specs.Derivations.Rules.{statement_of, IsHandlers}
use Rattle.nts_theory.specs.RelatingCandidates.{goals_with}
use Rattle.nts_meaning.specs.Running.{EachStays, PremiseHolds}
use Rattle.nts_trying.specs.Asking.{IsProvedAsked}
use Rattle.nts_evaluation.proofs.Leaking.{checked}
use Rattle.nts_meaning.proofs.AskedGoals.{trees_kept}
use Rattle.nts_meaning.proofs.AnsweredQueries.{args_later}
use Rattle.nts_trying.proofs.Labels.{only_earlier, only_back}
use Rattle.nts_meaning.proofs.Evaluating.{Goes-trans, Goes-extends, Runs-trans, Runs-extends, rolled_back, Since-later, offers-kept, IsPosed-later, AreValues-later, IsCandidate-extended, candidate_at, goes-back, HoldsGoal-extended}
use Rattle.nts_trying.proofs.Stepping.{among_get}
use Rattle.nts_meaning.proofs.Running.{term_table, both_sure, constraints-kept, offered_there, Equates-later, Constrains-later}
use Rattle.nts_canonical.specs.declared.types.Canonical.{Canonical}
use Rattle.nts_response.specs.declared.types.Response.{Response}
use Rattle.nts_store.specs.Kept.{map-kept, AllIn-kept}
use Rattle.nts_trying.proofs.Opened.{told_through, told_offered, refuted_through, labels_through, proved_through}
use Rattle.nts_trying.proofs.Probed.{found_in, found_still, went_in, plain_of, not_kept, says_found, says_before, run_replies}
use Rattle.nts_evaluation.proofs.Serving.{served_by}
use Rattle.nts_trying.proofs.Outcomes.{found_earlier, found_of, founds_more, founds_with, outcomes_first, outcomes_more, failed_of}
use Rattle.nts_trying.proofs.Ran.{added_is, added_only, ran_to, ran_refused, all_proved, all_posed, ok_inside}
use Rattle.nts_model.specs.Derivations.Rules.{goal_kind}
use Rattle.nts_meaning.specs.Searching.{HeadsTell, assumed_in}
use Rattle.nts_meaning.proofs.Searching.{Searches-refl, Searches-trans, search_later, search_grown, search_grows, search_covers, covers_grown, served_more, held_more, tell_grown, heads_tell_later}
use Rattle.nts_meaning.specs.Answering.{is_yes, verdict_at}
use Rattle.nts_meaning.proofs.Rounds.{grown, ran, search_then}
use Rattle.nts_delegate.specs.Relevant.{LeavesOut}
use Rattle.nts_trying.proofs.LeftOut.{all_outcomes, kept_offered}
use Rattle.nts_store.specs.declared.fault.EvalError.TheVariants as EvalError
use Rattle.std.proofs.Common.{drop}
use Rattle.std.proofs.lemmas.List.{drop_more}
use Rattle.std.specs.Result.{is_err}
use Rattle.std.proofs.lemmas.Result.{IfOk-from_err}
use Rattle.nts_meaning.specs.Answering.{is_kept}
use Rattle.nts_meaning.proofs.Running.{candidate-kept}
use Rattle.nts_trying.proofs.Stepping.{among_get}
use Rattle.nts_decisions.proofs.Faring.{among_by}
use Rattle.nts_evaluation.specs.Deciding.{AreRootValues}
use Rattle.nts_evaluation.proofs.Deciding.{decides_error, decides_fault, decides_grown, decides_later, same_search, then_same}
use Rattle.nts_evaluation.proofs.DecidedCandidates.{AreSoFar, none_held, so_far_with, Anything, anything, next_so_far, sure_yes}
use Rattle.nts_evaluation.proofs.FactTrials.{query_later, plain_later, over_after, facts_kept, fact_opened, held_met}
use Rattle.nts_evaluation.specs.Deciding.{CandidatesSettled, IsOverIfSilent}
use Rattle.nts_model.specs.Lists.{Among}
use Rattle.nts_meaning.specs.Answering.{IfAnswered, told_in}
use Rattle.nts_response.specs.Forms.{response_at}
use Rattle.nts_theory.specs.Telling.{IsResponseOf}
use Rattle.nts_theory.specs.RelatingCandidates.{HasPlainEquations}
use Rattle.nts_evaluation.proofs.DecidedTrials.{its_decided}
use Rattle.nts_evaluation.proofs.DecidedGoals.{opened_decided, by_offers, kept_settled}
use Rattle.nts_evaluation.proofs.evaluate.+evaluate.Goals as goal

pub rows::compute_goal-evaluate_candidates-response-requires : goal.rows::compute_goal-evaluate_candidates-response-requires
rows::compute_goal-evaluate_candidates-response-requires g t c = λ κs k.
    let o = c.in_ok-opened.ensures in
    let e = c.in_ok-candidates.ensures in
    let posed = rw c.in-Candidates.ensures.0 at o.posed in
    let more = e.grows.extends in
    let goes = Goes-extends o.goes.table more in
    let all = Goes-trans o.goes goes in (
      omega (arith, c.decreases),
      (
        k,
        (
          IsPosed-later goes posed,
          (
            g.met.H.GoalHandler.ready_kept _ _ _ c.requires.ready (Extends-trans o.grows.extends more),
            (
              rw c.deref.ensures.value e.candidates,
              (
                args_later c.args.cx.now.nodes c.relevant_candidates.new.cx.nodes c.args.table.now.entries c.enter_forall.new.table.entries c.args.values.now all.extends all.continues c.requires.values,
                search_grows c.args.depth c.args.depth (omega arith) c.requires.search (grown o.grows e.grows),
              ),
            ),
          ),
        ),
      ),
    )

pub rows::compute_goal-returns : goal.rows::compute_goal-returns
rows::compute_goal-returns g t c =
    let o = c.in_ok-opened.ensures in
    let e = c.in_ok-candidates.ensures in
    let more = e.grows.extends in
    let up = Extends-trans o.grows.extends more in
    let opened = rw c.in-Candidates.ensures.0 at o.opened in
    let posed = rw c.in-Candidates.ensures.0 at o.posed in
    let here = content_of-extended e.grows.extends o.goes.table.now in
    let trees = trees_kept c.args.cx.now.nodes c.enter_forall.new.cx.nodes c.args.table.now.entries c.args.values.now o.grows.extends c.requires.values in
    record {
      grows = search rules;
      searches = search_then c.args.depth c.requires.search (grown o.grows e.grows) c.evaluate_candidates-response.ensures.searches;
      found =
          let both = trees_kept c.args.cx.now.nodes c.relevant_candidates.new.cx.nodes c.args.table.now.entries c.args.values.now up c.requires.values in
          let goes = Goes-extends o.goes.table more in
          IfOk-map c.evaluate_candidates-response.result
          (λ r f. record {
            store = f.store;
            after = f.after;
            formed = f.formed;
            goes = Goes-trans o.goes (Goes-trans goes f.goes);
            labels = labels_through c.requires.posed opened o.grows.extends (only_back {g = c.in-Candidates.opened} more o.goes.table posed.holds f.labels);
            extends = f.extends;
            says = rw both at f.says;
            holds = f.holds;
            no_more = f.no_more;
            sure = λ y s.
                let h = g.H.GoalHandler.handler s.base c.args.handler.now in
                let same = g.met.H.GoalHandler.handler_kept s.base c.relevant_candidates.new.cx.nodes c.args.handler.now s.is_ready (Extends-trans s.extends up) in
                let offered = subst (λ os. LeavesOut os (candidates_of c.relevant_candidates.new.cx.nodes c.in_ok-candidates.candidates.items)) (ap (λ m. (g.H.GoalHandler.handler c.relevant_candidates.new.cx.nodes c.args.handler.now).offers (mode_of m) (tree_at c.relevant_candidates.new.cx.nodes c.in-Candidates.opened.param_env.node) (tree_at c.relevant_candidates.new.cx.nodes c.in-Candidates.opened.predicate.node)) c.typing_mode-2.ensures ∙ same.offers _ _ _) e.offered in
                let law = g.met.H.GoalHandler.lawful s.base c.args.handler.now s.formed s.is_ready in
                let there = Goes-trans goes f.goes in
                let later = (Goes-trans o.goes there).continues in
                let among = kept_offered _ c.in-Candidates.opened _ h c.enter_forall.new.table.mode offered in
                proved_through c.requires.posed opened o.grows.extends h s.variances (mode_of c.args.table.now.mode) (assumed_in c.evaluate_candidates-response.new.cx.nodes c.evaluate_candidates-response.new.graph) posed (let z = c.in-Candidates.ensures.1 in z.asked) there later f.formed law (rw o.goes.mode at (f.sure y (Since-later (grown o.grows e.grows) s) among));
          })
          (rw c.deref.ensures.value at c.evaluate_candidates-response.ensures.found);
      told = λ s tells.
          let both = trees_kept c.args.cx.now.nodes c.relevant_candidates.new.cx.nodes c.args.table.now.entries c.args.values.now up c.requires.values in
          let h = ruling_since (λ ts. g.H.GoalHandler.handler ts c.args.handler.now) s in
          let same = g.met.H.GoalHandler.handler_kept s.base c.relevant_candidates.new.cx.nodes c.args.handler.now s.is_ready (Extends-trans s.extends up) in
          let offered = subst (λ os. LeavesOut os (candidates_of c.relevant_candidates.new.cx.nodes c.in_ok-candidates.candidates.items)) (ap (λ m. (g.H.GoalHandler.handler c.relevant_candidates.new.cx.nodes c.args.handler.now).offers (mode_of m) (tree_at c.relevant_candidates.new.cx.nodes c.in-Candidates.opened.param_env.node) (tree_at c.relevant_candidates.new.cx.nodes c.in-Candidates.opened.predicate.node)) c.typing_mode-2.ensures ∙ same.offers _ _ _) e.offered in
          let run = rw c.deref.ensures.value at (c.evaluate_candidates-response.ensures.told (Since-later (grown o.grows e.grows) s) (tell_grown h c.args.depth c.requires.search (grown o.grows e.grows) tells)) in
          IfOk-map c.evaluate_candidates-response.result
          (λ r f. told_through c.requires.posed opened o.grows.extends posed c.in-Candidates.ensures.1 h c.args.table.now.mode c.args.values.now c.evaluate_candidates-response.new.cx.nodes r.value trees
          (rw (o.goes.mode) at (told_offered h c.enter_forall.new.table.mode c.enter_forall.new.table c.in-Candidates.opened c.args.values.now c.in_ok-candidates.candidates.items c.evaluate_candidates-response.new.cx.nodes r.value e.grows.extends o.goes.table posed.holds (both ∙ sym trees) offered f))) run;
      refuted = λ s tells n.
          let h = ruling_since (λ ts. g.H.GoalHandler.handler ts c.args.handler.now) s in
          let same = g.met.H.GoalHandler.handler_kept s.base c.relevant_candidates.new.cx.nodes c.args.handler.now s.is_ready (Extends-trans s.extends up) in
          let offered = subst (λ os. LeavesOut os (candidates_of c.relevant_candidates.new.cx.nodes c.in_ok-candidates.candidates.items)) (ap (λ m. (g.H.GoalHandler.handler c.relevant_candidates.new.cx.nodes c.args.handler.now).offers (mode_of m) (tree_at c.relevant_candidates.new.cx.nodes c.in-Candidates.opened.param_env.node) (tree_at c.relevant_candidates.new.cx.nodes c.in-Candidates.opened.predicate.node)) c.typing_mode-2.ensures ∙ same.offers _ _ _) e.offered in
          let run = rw c.deref.ensures.value at (c.evaluate_candidates-response.ensures.refuted (Since-later (grown o.grows e.grows) s) (tell_grown h c.args.depth c.requires.search (grown o.grows e.grows) tells) n) in
          let both = trees_kept c.args.cx.now.nodes c.relevant_candidates.new.cx.nodes c.args.table.now.entries c.args.values.now up c.requires.values in
          let environment = e.grows.extends.kept c.in-Candidates.opened.param_env.node posed.holds.env.within in
          let predicate = e.grows.extends.kept c.in-Candidates.opened.predicate.node posed.holds.predicate.within in
          refuted_through c.requires.posed opened o.grows.extends posed c.in-Candidates.ensures.1 h c.args.table.now.mode c.args.values.now
          (rw (here, o.goes.mode, both, offers-kept (g.H.GoalHandler.handler s.base c.args.handler.now) (mode_of c.args.table.now.mode) e.grows.extends posed.holds, environment, predicate) at (all_outcomes offered _ _ refl run));
      decided = λ s n b d can.
          let h = g.H.GoalHandler.handler s.base c.args.handler.now in
          let law = g.met.H.GoalHandler.lawful s.base c.args.handler.now s.formed s.is_ready in
          let same = g.met.H.GoalHandler.handler_kept s.base c.relevant_candidates.new.cx.nodes c.args.handler.now s.is_ready (Extends-trans s.extends up) in
          let offered = subst (λ os. LeavesOut os (candidates_of c.relevant_candidates.new.cx.nodes c.in_ok-candidates.candidates.items)) (ap (λ m. (g.H.GoalHandler.handler c.relevant_candidates.new.cx.nodes c.args.handler.now).offers (mode_of m) (tree_at c.relevant_candidates.new.cx.nodes c.in-Candidates.opened.param_env.node) (tree_at c.relevant_candidates.new.cx.nodes c.in-Candidates.opened.predicate.node)) c.typing_mode-2.ensures ∙ same.offers _ _ _) e.offered in
          let x = by_offers c.in-Candidates.ensures.1 (opened_decided h law (mode_of c.args.table.now.mode) n b c.args.goal c.args.values.now d.0 d.1 c.requires.posed c.terms_are_formed.ensures o.grows.extends c.in-Candidates.opened opened posed) in
          let environment = e.grows.extends.kept c.in-Candidates.opened.param_env.node posed.holds.env.within in
          let predicate = e.grows.extends.kept c.in-Candidates.opened.predicate.node posed.holds.predicate.within in
          let settled = kept_settled h c.args.table.now.mode n b c.enter_forall.new.cx.nodes c.in-Candidates.opened c.in_ok-candidates.candidates.items here environment predicate x (rw o.goes.mode at offered) in
          let root = d.0 in
          let values : AreRootValues c.relevant_candidates.new.cx.nodes c.args.values.now = record { kinds = root.kinds; roots = root.roots; values = trees_kept c.args.cx.now.nodes c.relevant_candidates.new.cx.nodes c.args.table.now.entries c.args.values.now up c.requires.values ∙ root.values } in
          c.evaluate_candidates-response.ensures.decided (Since-later (grown o.grows e.grows) s) n b (values, rw (o.goes.mode, c.deref.ensures.value) settled) (decides_grown c.requires.search (grown o.grows e.grows) can);
      facts = λ s tells f can.
          let h = g.H.GoalHandler.handler s.base c.args.handler.now in
          let ruled = ruling_since (λ ts. g.H.GoalHandler.handler ts c.args.handler.now) s in
          let law = g.met.H.GoalHandler.lawful s.base c.args.handler.now s.formed s.is_ready in
          let same = g.met.H.GoalHandler.handler_kept s.base c.relevant_candidates.new.cx.nodes c.args.handler.now s.is_ready (Extends-trans s.extends up) in
          let offered = subst (λ os. LeavesOut os (candidates_of c.relevant_candidates.new.cx.nodes c.in_ok-candidates.candidates.items)) (ap (λ m. (g.H.GoalHandler.handler c.relevant_candidates.new.cx.nodes c.args.handler.now).offers (mode_of m) (tree_at c.relevant_candidates.new.cx.nodes c.in-Candidates.opened.param_env.node) (tree_at c.relevant_candidates.new.cx.nodes c.in-Candidates.opened.predicate.node)) c.typing_mode-2.ensures ∙ same.offers _ _ _) e.offered in
          let settled = f.settled in
          let there = fact_opened c.args.cx.now.nodes c.enter_forall.new.cx.nodes c.args.table.now c.enter_forall.new.table c.args.goal c.in-Candidates.opened opened settled.binds_nothing c.requires.posed o.grows.extends in
          let environment = e.grows.extends.kept c.in-Candidates.opened.param_env.node posed.holds.env.within ∙ there.environment in
          let predicate = e.grows.extends.kept c.in-Candidates.opened.predicate.node posed.holds.predicate.within ∙ there.predicate in
          let table = here ∙ there.table in
          let values = trees_kept c.args.cx.now.nodes c.relevant_candidates.new.cx.nodes c.args.table.now.entries c.args.values.now up c.requires.values in
          let query = query_later c.args.cx.now.nodes c.relevant_candidates.new.cx.nodes c.args.table.now c.enter_forall.new.table c.args.goal c.in-Candidates.opened c.args.values.now table environment predicate values f.query in
          let kept = facts_kept h law c.args.table.now.mode c.relevant_candidates.new.cx.nodes c.enter_forall.new.table c.in-Candidates.opened c.in_ok-candidates.candidates.items (rw (table, environment, predicate) settled) (rw o.goes.mode at offered) in
          c.evaluate_candidates-response.ensures.facts (Since-later (grown o.grows e.grows) s) (tell_grown ruled c.args.depth c.requires.search (grown o.grows e.grows) tells) query (rw c.deref.ensures.value (subst (λ m. CandidatesSettled h m 0 c.relevant_candidates.new.cx.nodes c.enter_forall.new.table c.in_ok-candidates.candidates.items true) (sym o.goes.mode) kept.0)) (rw c.deref.ensures.value kept.1) (decides_grown c.requires.search (grown o.grows e.grows) can);
    }

pub candidates::evaluate_candidates-loop-candidate-init : goal.candidates::evaluate_candidates-loop-candidate-init
candidates::evaluate_candidates-loop-candidate-init g t c = record {
  same = refl;
  grows = record { extends = Extends-refl _; rest = KeepsRest-refl _ };
  searches = Searches-refl c.args.depth c.requires.search (record { extends = Extends-refl _; rest = KeepsRest-refl _ });
  found = λ k d l. absurd (omega (arith, l, ap (length {A = Canonical Response}) c.new-responses.ensures.items));
  told = λ s tells. outcomes_first c.args.cx.now.nodes c.args.cx.now.nodes c.args.table.now c.args.goal (ruling_since (λ ts. g.H.GoalHandler.handler ts c.args.handler.now) s) c.args.table.now.mode c.args.values.now c.args.candidates.now c.new-responses.result.items c.new-responses.ensures.items;
  decided = λ s n b d can. (let fares = d.1 in (subst (AreSoFar Anything (g.H.GoalHandler.handler s.base c.args.handler.now) c.args.table.now.mode n c.args.cx.now.nodes c.args.table.now c.args.candidates.now b) (sym c.new-responses.ensures.items) (none_held fares.fares), same_search _));
  facts = λ s tells q settled plain can. (subst (AreSoFar (IsOverIfSilent c.args.cx.now.nodes (trees_of c.args.cx.now.nodes c.args.values.now)) (g.H.GoalHandler.handler s.base c.args.handler.now) c.args.table.now.mode 0 c.args.cx.now.nodes c.args.table.now c.args.candidates.now true) (sym c.new-responses.ensures.items) (none_held settled.fares), same_search _);
}

pub candidates::evaluate_candidates-loop-candidate-preserved : goal.candidates::evaluate_candidates-loop-candidate-preserved
candidates::evaluate_candidates-loop-candidate-preserved g t c =
    let i = c.loop-candidate.invariant in
    let p = c.probe_candidate-answer.ensures in
    let m = c.in_ok-keep_response.ensures in
    let rs = c.loop-candidate.responses.items in
    let new = c.keep_response.new.responses.items in
    let at = c.loop-candidate-test.true in
    let holds = c.requires.posed.holds in
    let cs = c.args.candidates.now in
    let x = c.candidate-item.result in
    let w = c.requires.posed.table in
    let mode = c.args.table.now.mode in
    let now = search_later c.args.depth c.args.depth (omega arith) c.requires.search i.searches in
    let covers = search_covers c.args.depth now p.grows.extends p.searches in
    let later = λ (s : Since (λ ts. g.H.GoalHandler.ready ts c.args.handler.now) c.args.cx.now) (tells : HeadsTell (ruling_since (λ ts. g.H.GoalHandler.handler ts c.args.handler.now) s) c.args.cx.now.nodes c.args.graph.now). heads_tell_later (ruling_since (λ ts. g.H.GoalHandler.handler ts c.args.handler.now) s) c.args.depth c.requires.search i.grows.extends i.searches tells in
    record {
      same = p.same ∙ i.same;
      grows = record { extends = Extends-trans i.grows.extends p.grows.extends; rest = KeepsRest-trans i.grows.rest p.grows.rest };
      searches = Searches-trans i.searches p.searches;
      found = founds_more rs new c.probe_candidate-answer.result p.grows.extends (founds_with rs (λ b u f s offered. served_more covers (f s offered)) i.found)
          (IfOk-map c.probe_candidate-answer.result
          (λ r f. found_earlier r.value i.grows.extends w holds c.requires.values (λ b u f. f)
          (found_of r.value (λ b u later f s offered. served_by (g.H.GoalHandler.handler s.base c.args.handler.now) (meaning (g.H.GoalHandler.handler s.base c.args.handler.now) s.variances) mode _ c.loop-candidate.cx.nodes b u c.args.goal _ later (HoldsGoal-extended i.grows.extends holds)
          (rw (offers-kept (g.H.GoalHandler.handler s.base c.args.handler.now) (mode_of mode) i.grows.extends holds) (offered_there _ c.args.goal _ cs c.loop-candidate.candidate-index c.candidate-item.is at c.requires.candidates i.grows.extends offered)) (f (Since-later i.grows s))) f))
          (rw i.same at p.found)) m.kept;
      told = λ s tells. outcomes_more (ruling_since (λ ts. g.H.GoalHandler.handler ts c.args.handler.now) s) mode cs c.loop-candidate.candidate-index x x rs new c.probe_candidate-answer.result at c.candidate-item.is i.grows.extends p.grows.extends w c.requires.values (candidate_at c.args.cx.now.nodes c.args.goal cs c.loop-candidate.candidate-index x c.requires.candidates at) i.found m.kept holds
          (rw i.same at (p.told (Since-later i.grows s) (later s tells)))
          (failed_of c.probe_candidate-answer.result m.dropped (λ n. rw i.same at (p.refuted (Since-later i.grows s) (later s tells) n))) (i.told s tells);
      decided = λ s n b d can.
          let h = g.H.GoalHandler.handler s.base c.args.handler.now in
          let so_far = i.decided s n b d can in
          let index = c.loop-candidate.candidate-index in
          let left = drop_more cs index x at ∙ ap (λ z. z ∷ drop (index + 1) cs) (sym c.candidate-item.is) in
          let candidate : IsCandidate c.args.cx.now.nodes c.args.goal x = rw c.candidate-item.is (candidate_at c.args.cx.now.nodes c.args.goal cs index x c.requires.candidates at) in
          let kept = candidate-kept {a = c.args.cx.now.nodes} {b = c.loop-candidate.cx.nodes} {g = c.args.goal} {d = x} i.grows.extends candidate in
          let all = d.1 in
          let sure = all.sure (candidate_of c.args.cx.now.nodes x) (rw c.candidate-item.is (among_by (candidate_of c.args.cx.now.nodes) cs (get_or cs index x) (among_get cs index x at))) in
          let plain_here = all.plain (candidate_of c.args.cx.now.nodes x) (rw c.candidate-item.is (among_by (candidate_of c.args.cx.now.nodes) cs (get_or cs index x) (among_get cs index x at))) in
          let ready = decides_later n c.args.depth c.requires.search i.grows so_far.1 (omega arith) can.deep can in
          let next = next_so_far Anything h mode n c.args.cx.now.nodes c.args.table.now x (drop (index + 1) cs) b rs new c.probe_candidate-answer.result m.kept m.dropped
          (λ k f. p.decided (Since-later i.grows s) n k (record { fares = rw (i.same, content_of-extended i.grows.extends w.now, kept) f; sure = sure; plain = subst HasPlainEquations (sym kept) plain_here }) ready) (λ f. anything c.probe_candidate-answer.result)
          (subst (λ ys. AreSoFar Anything h mode n c.args.cx.now.nodes c.args.table.now ys b rs) left so_far.0) in
          (next.0, then_same so_far.1 next.1);
      facts = λ s tells q all plain can.
          let h = g.H.GoalHandler.handler s.base c.args.handler.now in
          let so_far = i.facts s tells q all plain can in
          let index = c.loop-candidate.candidate-index in
          let left = drop_more cs index x at ∙ ap (λ z. z ∷ drop (index + 1) cs) (sym c.candidate-item.is) in
          let candidate : IsCandidate c.args.cx.now.nodes c.args.goal x = rw c.candidate-item.is (candidate_at c.args.cx.now.nodes c.args.goal cs index x c.requires.candidates at) in
          let kept = candidate-kept {a = c.args.cx.now.nodes} {b = c.loop-candidate.cx.nodes} {g = c.args.goal} {d = x} i.grows.extends candidate in
          let trees = trees_kept c.args.cx.now.nodes c.loop-candidate.cx.nodes c.args.table.now.entries c.args.values.now i.grows.extends c.requires.values in
          let among : Among (candidates_of c.args.cx.now.nodes cs) (candidate_of c.args.cx.now.nodes x) = rw c.candidate-item.is (among_by (candidate_of c.args.cx.now.nodes) cs (get_or cs index x) (among_get cs index x at)) in
          let sure = all.sure (candidate_of c.args.cx.now.nodes x) among in
          let plain_here = all.plain (candidate_of c.args.cx.now.nodes x) among in
          let ready = decides_later 0 c.args.depth c.requires.search i.grows so_far.1 (omega arith) can.deep can in
          let content = content_of-extended i.grows.extends w.now in
          let env = i.grows.extends.kept c.args.goal.param_env.node holds.env.within in
          let predicate = i.grows.extends.kept c.args.goal.predicate.node holds.predicate.within in
          let query = query_later c.args.cx.now.nodes c.loop-candidate.cx.nodes c.args.table.now c.args.table.now c.args.goal c.args.goal c.args.values.now content env predicate trees q in
          let next = next_so_far (IsOverIfSilent c.probe_candidate-answer.new.cx.nodes (trees_of c.args.cx.now.nodes c.args.values.now)) h mode 0 c.args.cx.now.nodes c.args.table.now x (drop (index + 1) cs) true rs new c.probe_candidate-answer.result m.kept m.dropped
          (λ k f. p.decided (Since-later i.grows s) 0 k (record { fares = rw (i.same, content, kept) f; sure = sure; plain = subst HasPlainEquations (sym kept) plain_here }) ready)
          (λ f. subst (λ z. IfAnswered c.probe_candidate-answer.result (IsOverIfSilent c.probe_candidate-answer.new.cx.nodes z)) trees (p.facts (Since-later i.grows s) (later s tells) (rw i.same query) (plain_later c.args.cx.now.nodes c.loop-candidate.cx.nodes c.args.goal (candidate_of c.args.cx.now.nodes x) (candidate_of c.loop-candidate.cx.nodes x) env predicate kept (plain (candidate_of c.args.cx.now.nodes x) among (held_met f)))))
          (so_far_with (λ r o ts up. o ts (Extends-trans p.grows.extends up)) (subst (λ ys. AreSoFar (IsOverIfSilent c.loop-candidate.cx.nodes (trees_of c.args.cx.now.nodes c.args.values.now)) h mode 0 c.args.cx.now.nodes c.args.table.now ys true rs) left so_far.0)) in
          (next.0, then_same so_far.1 next.1);
    }

pub candidates::evaluate_candidates-probe_candidate-answer-requires : goal.candidates::evaluate_candidates-probe_candidate-answer-requires
candidates::evaluate_candidates-probe_candidate-answer-requires g t c = λ κs k.
    let i = c.loop-candidate.invariant in
    let goes = goes-back c.requires.posed.table i.grows.extends i.same in (
      omega (arith, c.decreases),
      (
        k,
        (
          IsPosed-later goes c.requires.posed,
          (
            g.met.H.GoalHandler.ready_kept _ _ _ c.requires.ready i.grows.extends,
            (
              rw c.candidate-item.is (IsCandidate-extended i.grows.extends c.requires.posed.holds (candidate_at c.args.cx.now.nodes c.args.goal c.args.candidates.now c.loop-candidate.candidate-index _ c.requires.candidates c.loop-candidate-test.true)),
              (
                args_later c.args.cx.now.nodes c.loop-candidate.cx.nodes c.args.table.now.entries c.loop-candidate.table.entries c.args.values.now goes.extends goes.continues c.requires.values,
                search_later c.args.depth c.args.depth (omega arith) c.requires.search i.searches,
              ),
            ),
          ),
        ),
      ),
    )

pub candidates::probe_candidate-boxed_response-requires-clause-values : goal.candidates::probe_candidate-boxed_response-requires-clause-values
candidates::probe_candidate-boxed_response-requires-clause-values g t c =
    let p = c.requires.posed in
    let o = c.in_ok-snapshot.ensures in
    let r = c.in-Ok.ensures in
    let back = rolled_back o.saved r.runs.goes c.rollback_to-2.ensures.saved o.mode c.rollback_to-2.ensures.mode in
    let goes = goes-back p.table r.runs.goes.extends back in
    args_later c.args.cx.now.nodes c.run_candidate.new.cx.nodes c.args.table.now.entries c.rollback_to-2.new.self.entries c.args.values.now goes.extends goes.continues c.requires.values

pub candidates::probe_candidate-returns : goal.candidates::probe_candidate-returns
candidates::probe_candidate-returns g t c =
    let p = c.requires.posed in
    let o = c.in_ok-snapshot.ensures in
    let r = c.in-Ok.ensures in
    let back = rolled_back o.saved r.runs.goes c.rollback_to-2.ensures.saved o.mode c.rollback_to-2.ensures.mode in
    let m = c.in_ok-response-2.ensures in
    let went = went_in p.table o.entries o.saved o.mode r.runs.goes in
    let trees = trees_kept c.args.cx.now.nodes c.run_candidate.new.cx.nodes c.args.table.now.entries c.args.values.now went.extends c.requires.values in
    let still = content_of-extended r.runs.goes.extends p.table.now in
    let unsure = not_kept (sym c.keeps_constraints.ensures ∙ c.if-keeps_constraints.false) in
    record {
      same = search rules;
      grows = search rules;
      searches = search_grown c.args.depth c.requires.search c.in-Ok.ensures.searches c.boxed_response.ensures.grows;
      found = found_still c.in_ok-response-2.response.value c.in-Ok.certainty p.table r.runs.goes.extends c.terms_are_formed.ensures m.grows.extends c.requires.values m.certainty (not_kept (sym c.keeps_constraints.ensures ∙ c.if-keeps_constraints.false)) (rw back at m.says) m.holds (record { no_hidden = m.nothing.0; no_goals = m.nothing.1 });
      told = λ s tells.
          let h = ruling_since (λ ts. g.H.GoalHandler.handler ts c.args.handler.now) s in
          run_replies c.start_snapshot.new.self c.args.table.now c.run_candidate.new.table h c.args.table.now.mode c.args.candidate.now c.args.goal (trees_of c.args.cx.now.nodes c.args.values.now) _ (r.told s tells) o.mode o.entries c.terms_are_formed.ensures r.runs.goes.table r.labels
          (says_before c.in-Ok.certainty (content_of c.args.cx.now.nodes c.start_snapshot.new.self.entries) (content_of c.run_candidate.new.cx.nodes c.run_candidate.new.table.entries) (trees_of c.args.cx.now.nodes c.args.values.now) (verdict_at c.boxed_response.new.cx.nodes c.in_ok-response-2.response.value) (ap is_yes m.certainty) unsure (rw o.entries (plain_of c.in-Ok.certainty _ _ _ (rw (back, still, trees) at m.says) unsure)));
      refuted = search rules;
      decided = λ s n b d can.
          let x = r.decided s n b (record { fares = rw (o.mode, o.entries) d.fares; sure = d.sure; plain = d.plain }) can in
          absurd (let kept = ap is_kept x.answer.1 in let none = sym c.keeps_constraints.ensures ∙ c.if-keeps_constraints.false in cc (kept, none));
      facts = λ s tells q plain ts up silent. absurd (unsure (sym m.certainty ∙ silent.0));
    }

pub candidates::probe_candidate-returns-then-keeps_constraints : goal.candidates::probe_candidate-returns-then-keeps_constraints
candidates::probe_candidate-returns-then-keeps_constraints g t c =
    let p = c.requires.posed in
    let o = c.in_ok-snapshot.ensures in
    let r = c.in-Ok.ensures in
    let went = went_in p.table o.entries o.saved o.mode r.runs.goes in
    let m = c.in_ok-response.ensures in
    let now = search_later c.args.depth c.args.depth (omega arith) c.requires.search r.searches in
    let covers = covers_grown c.args.depth now m.grows in
    let trees = trees_kept c.args.cx.now.nodes c.run_candidate.new.cx.nodes c.args.table.now.entries c.args.values.now went.extends c.requires.values in
    record {
      same = rolled_back c.in_ok-snapshot.ensures.saved c.in-Ok.ensures.runs.goes c.rollback_to-then-keeps_constraints.ensures.saved c.in_ok-snapshot.ensures.mode c.rollback_to-then-keeps_constraints.ensures.mode;
      grows = search rules;
      searches = search_grown c.args.depth c.requires.search c.in-Ok.ensures.searches c.boxed_response-response.ensures.grows;
      found =
          found_in c.in_ok-response.field-0.value c.in-Ok.certainty went c.terms_are_formed.ensures m.grows.extends (rw o.entries at r.labels) c.requires.values m.certainty m.says m.holds (record { no_hidden = m.nothing.0; no_goals = m.nothing.1 })
          (λ y s. held_more covers (rw o.mode at (r.proved s (ap Ok y))));
      told = λ s tells.
          let h = ruling_since (λ ts. g.H.GoalHandler.handler ts c.args.handler.now) s in
          run_replies c.start_snapshot.new.self c.args.table.now c.run_candidate.new.table h c.args.table.now.mode c.args.candidate.now c.args.goal (trees_of c.args.cx.now.nodes c.args.values.now) _ (r.told s tells) o.mode o.entries c.terms_are_formed.ensures r.runs.goes.table r.labels
          (says_found c.in-Ok.certainty (content_of c.args.cx.now.nodes c.start_snapshot.new.self.entries) (content_of c.run_candidate.new.cx.nodes c.run_candidate.new.table.entries) (trees_of c.args.cx.now.nodes c.args.values.now) (verdict_at c.boxed_response-response.new.cx.nodes c.in_ok-response.field-0.value) (ap is_yes m.certainty) (rw trees at m.says));
      refuted = search rules;
      decided = λ s n b d can.
          let x = r.decided s n b (record { fares = rw (o.mode, o.entries) d.fares; sure = d.sure; plain = d.plain }) can in
          record { answer = (x.answer.0, m.certainty ∙ x.answer.1); search = x.search };
      facts = λ s tells q plain ts up silent.
          let ruled = ruling_since (λ ts. g.H.GoalHandler.handler ts c.args.handler.now) s in
          over_after ruled c.start_snapshot.new.self c.args.table.now c.run_candidate.new.table c.boxed_response-response.new.cx.nodes c.args.candidate.now c.args.goal c.args.values.now c.in_ok-response.field-0.value (r.told s tells) o.entries r.runs.goes.continues c.terms_are_formed.ensures r.runs.goes.table q plain
          (rw trees at (subst (λ z. IsResponseOf (told_in z (content_of c.run_candidate.new.cx.nodes c.run_candidate.new.table.entries)) (trees_of c.run_candidate.new.cx.nodes c.args.values.now) (response_at c.boxed_response-response.new.cx.nodes c.in_ok-response.field-0.value)) (sym m.certainty ∙ silent.0) m.says)) m.holds ts up silent;
    }

pub candidates::run_candidate-returns : goal.candidates::run_candidate-returns
candidates::run_candidate-returns g t c =
    let e = c.try_candidate-tried.ensures in
    let k = c.check_leaks.ensures in
    checked {R = rules_of g.H.GoalHandler.ready g.H.GoalHandler.handler c.args.handler.now} c.args.depth c.try_candidate-tried.result c.check_leaks.result c.requires.search c.requires.posed.holds e k.grows k.ok k.err k.leaks
    (λ z. g.met.H.GoalHandler.handler_kept z.base c.try_candidate-tried.new.cx.nodes c.args.handler.now z.is_ready (Extends-trans z.extends e.runs.goes.extends))

pub candidates::try_candidate-returns : goal.candidates::try_candidate-returns
candidates::try_candidate-returns g t c =
    let v = c.in_ok-values.ensures in
    let k = c.in_ok-record_constraints.ensures in
    let n = c.in_ok-goals.ensures in
    let grow = grown (ran c.in_ok-values.ensures.runs) (grown (ran c.in_ok-record_constraints.ensures.runs) c.in_ok-goals.ensures.grows) in
    let into = Runs-trans v.runs k.runs in
    let e = posed_steps (rules_of g.H.GoalHandler.ready g.H.GoalHandler.handler c.args.handler.now) c.added_goals.new.cx c.pose_asked.new.cx c.try_evaluate_goals.new.cx _ _ c.record_constraints.new.table c.pose_asked.new.table c.try_evaluate_goals.new.table c.args.table.now.mode _ c.in_ok-goals.goals.items _ _ _ _ _ _ _ into.goes.mode c.pose_asked.ensures.runs c.in_ok-kept.ensures.asks (search_grows c.args.depth c.args.depth (omega arith) c.requires.search grow) c.terms_are_formed.ensures c.terms_are_formed-2.ensures n.added.posed c.in_ok-certainty.ensures in
    let brought = added_only c.in_ok-goals.goals.items n.added e.labels (content_of-extended n.grows.extends k.runs.goes.table.now) in
    let there = Runs-trans v.runs k.runs in
    let upto = Runs-trans there (Runs-extends k.runs.goes.table n.grows.extends n.grows.rest) in
    let x = c.args.candidate.now in
    let gs = c.in_ok-goals.goals.items in
    let vs = c.deref-2.result.now in
    let within : AllIn c.equate.new.cx.nodes c.deref-2.result.now = rw c.deref-2.ensures.value v.values.within in
    let constraints = constraints-kept c.args.cx.now.nodes c.equate.new.cx.nodes x.fresh.items c.args.goal x.region_constraints.items v.runs.goes.extends c.requires.candidate.constraints in
    let mode = c.args.table.now.mode in
    let z = c.try_evaluate_goals.new.cx.nodes in
    let here = content_of z c.try_evaluate_goals.new.table.entries in
    let seen = candidate_of c.args.cx.now.nodes x in
    let steps = Runs-trans (Runs-extends k.runs.goes.table n.grows.extends n.grows.rest) e.runs in
    let all = Runs-trans there steps in
    let later = AreValues-later (Runs-trans k.runs steps).goes v.values in
    let same = map-kept c.record_constraints.new.cx.nodes z vs (AllIn-kept c.equate.new.cx.nodes c.record_constraints.new.cx.nodes vs within k.runs.goes.extends) steps.goes.extends in
    let goals = (rw c.deref-4.ensures.value at n.added.goals) ∙ added_is z c.args.goal x.fresh.items vs x.goals.items there.goes.extends c.requires.candidate.goals (sym same) in
    let A = assumed_in c.try_evaluate_goals.new.cx.nodes c.try_evaluate_goals.new.graph in
    record {
      runs = Runs-trans upto e.runs;
      searches = search_then c.args.depth c.requires.search (grown (ran c.in_ok-values.ensures.runs) (grown (ran c.in_ok-record_constraints.ensures.runs) c.in_ok-goals.ensures.grows)) e.searches;
      labels = only-trans v.labels (only_earlier v.runs.goes.extends c.requires.posed.holds (only-trans k.labels (only_earlier k.runs.goes.extends (HoldsGoal-extended v.runs.goes.extends c.requires.posed.holds) brought)));
      proved = λ s y.
          let h = g.H.GoalHandler.handler s.base c.args.handler.now in
          let since = Since-later (grown (ran there) n.grows) s in
          let sure = both_sure _ _ (sym c.and-2.ensures ∙ ok_inside y) in
          let kind = goal_kind (meaning (g.H.GoalHandler.handler s.base c.args.handler.now) s.variances) (tree_at c.args.cx.now.nodes c.args.goal.predicate.node) in
          let settled = rw (c.goal_kind-kind.ensures.kind s.base s.variances) at (e.proved since c.terms_are_formed-3.ensures (ap Ok (sym c.and.ensures ∙ sure.1))) in
          let m = meaning h s.variances in
          let values = map (tree_at z) vs in
          let says = tree_at c.args.cx.now.nodes c.args.goal.predicate.node in
          let its = map (premise_of c.args.cx.now.nodes) x.goals.items in
          let own : EachStays here (PremiseHolds m (mode_of mode) kind A values) its ⊎ IsHandlers (statement_of says) × ((p : Premise) → Among (goals_with values its) p → IsProvedAsked m (mode_of mode) A here kind p) =
          elim settled [
            | inl w ↦ inl (all_proved m (mode_of mode) kind A values its gs goals (all_posed gs n.added.posed) e.runs.goes c.terms_are_formed-3.ensures w)
            | inr w ↦ inr (subst (λ o. IsHandlers (statement_of o)) (upto.goes.extends.kept c.args.goal.predicate.node c.requires.posed.holds.predicate.within) w.0, λ p i. w.1 p (subst (λ ps. Among ps p) (sym goals) i))
          ] in
          either_run m (mode_of mode) A here seen values (tree_at c.args.cx.now.nodes c.args.goal.param_env.node) says (term_table c.terms_are_formed-3.ensures e.runs.goes.table) (ap certainty_of sure.0) (rw c.deref-2.ensures.value later.values) (rw c.deref-2.ensures.value later.known)
          (rw c.deref-2.ensures.value (Equates-later c.args.cx.now.nodes c.in_ok-values.values.items x.equations.items (Runs-trans k.runs steps).goes v.values.within v.equal))
          (Constrains-later c.args.cx.now.nodes vs x.region_constraints.items steps.goes (AllIn-kept c.equate.new.cx.nodes c.record_constraints.new.cx.nodes vs within k.runs.goes.extends) (rw (c.deref-3.ensures.value, constraints) at k.held)) own;
      told = λ s tells.
          let h = ruling_since (λ ts. g.H.GoalHandler.handler ts c.args.handler.now) s in
          let since = Since-later (grown (ran there) n.grows) s in
          ran_to {t = c.args.table.now} {u = c.equate.new.table} {v = c.record_constraints.new.table} h mode c.args.goal x vs gs (rw c.deref-2.ensures.value v.equated) (rw (c.deref-3.ensures.value) at k.added) constraints c.requires.candidate.goals v.runs.goes.extends k.runs.goes.extends there.goes.extends n.grows.extends k.runs.goes.table within (rw c.deref-4.ensures.value at n.added.goals) (c.needs_relating.ensures.no c.if-needs_relating.false) c.try_evaluate_goals.new.cx.nodes c.try_evaluate_goals.new.table (rw (c.goal_kind-kind.ensures.kind s.base s.variances) at (e.told since (tell_grown h c.args.depth c.requires.search (grown (ran c.in_ok-values.ensures.runs) (grown (ran c.in_ok-record_constraints.ensures.runs) c.in_ok-goals.ensures.grows)) tells)));
      refuted = search rules;
      decided = λ s i b d can.
          let h = g.H.GoalHandler.handler s.base c.args.handler.now in
          let since = Since-later (grown (ran there) n.grows) s in
          let up = grown (ran c.in_ok-values.ensures.runs) (grown (ran c.in_ok-record_constraints.ensures.runs) c.in_ok-goals.ensures.grows) in
          let settled = its_decided {t = c.args.table.now} {u = c.equate.new.table} {v = c.record_constraints.new.table} h mode i b c.args.goal x vs gs (rw c.deref-2.ensures.value v.equated) (rw (c.deref-3.ensures.value) at k.added) constraints c.requires.candidate.goals v.runs.goes.extends k.runs.goes.extends there.goes.extends n.grows.extends k.runs.goes.table within (rw c.deref-4.ensures.value at n.added.goals) c.terms_are_formed.ensures v.runs.goes.table n.added.posed c.requires.posed c.requires.candidate (c.needs_relating.ensures.no c.if-needs_relating.false) d c.record_constraints.new.table refl in
          let y = e.decided since i b settled (decides_grown c.requires.search up can) in
          record { answer = (y.answer.0, c.and-2.ensures ∙ rw (sure_yes x.certainty d.sure, c.and.ensures ∙ y.answer.1) refl); search = y.search };
    }

pub candidates::try_candidate-returns-in_err-certainty : goal.candidates::try_candidate-returns-in_err-certainty
candidates::try_candidate-returns-in_err-certainty g t c =
    let v = c.in_ok-values.ensures in
    let k = c.in_ok-record_constraints.ensures in
    let there = Runs-trans v.runs k.runs in
    let n = c.in_ok-goals.ensures in
    let upto = Runs-trans there (Runs-extends k.runs.goes.table n.grows.extends n.grows.rest) in
    let x = c.args.candidate.now in
    let gs = c.in_ok-goals.goals.items in
    let grow = grown (ran c.in_ok-values.ensures.runs) (grown (ran c.in_ok-record_constraints.ensures.runs) c.in_ok-goals.ensures.grows) in
    let into = Runs-trans v.runs k.runs in
    let e = posed_steps (rules_of g.H.GoalHandler.ready g.H.GoalHandler.handler c.args.handler.now) c.added_goals.new.cx c.pose_asked.new.cx c.try_evaluate_goals.new.cx _ _ c.record_constraints.new.table c.pose_asked.new.table c.try_evaluate_goals.new.table c.args.table.now.mode _ c.in_ok-goals.goals.items _ _ _ _ _ _ _ into.goes.mode c.pose_asked.ensures.runs c.in_ok-kept.ensures.asks (search_grows c.args.depth c.args.depth (omega arith) c.requires.search grow) c.terms_are_formed.ensures c.terms_are_formed-2.ensures n.added.posed c.try_evaluate_goals.ensures in
    let vs = c.deref-2.result.now in
    let within : AllIn c.equate.new.cx.nodes c.deref-2.result.now = rw c.deref-2.ensures.value v.values.within in
    let constraints = constraints-kept c.args.cx.now.nodes c.equate.new.cx.nodes x.fresh.items c.args.goal x.region_constraints.items v.runs.goes.extends c.requires.candidate.constraints in
    let mode = c.args.table.now.mode in
    record {
      runs = Runs-trans upto e.runs;
      searches = search_then c.args.depth c.requires.search (grown (ran c.in_ok-values.ensures.runs) (grown (ran c.in_ok-record_constraints.ensures.runs) c.in_ok-goals.ensures.grows)) e.searches;
      labels = search rules;
      proved = search rules;
      told = search rules;
      refuted = λ s tells no.
          let h = ruling_since (λ ts. g.H.GoalHandler.handler ts c.args.handler.now) s in
          let since = Since-later (grown (ran there) n.grows) s in
          let refused : c.try_evaluate_goals.result ≡ Err EvalError.NoSolution = search rules in
          ran_refused {t = c.args.table.now} {u = c.equate.new.table} {v = c.record_constraints.new.table} h mode c.args.goal x vs gs (rw c.deref-2.ensures.value v.equated) (rw (c.deref-3.ensures.value) at k.added) constraints c.requires.candidate.goals v.runs.goes.extends k.runs.goes.extends there.goes.extends n.grows.extends k.runs.goes.table within (rw c.deref-4.ensures.value at n.added.goals) (c.needs_relating.ensures.no c.if-needs_relating.false) (rw (c.goal_kind-kind.ensures.kind s.base s.variances) at (e.refuted since (tell_grown h c.args.depth c.requires.search (grown (ran c.in_ok-values.ensures.runs) (grown (ran c.in_ok-record_constraints.ensures.runs) c.in_ok-goals.ensures.grows)) tells) (joined_fails _ c.in_ok-kept.kept refused)));
      decided = λ s i b d can.
          let h = g.H.GoalHandler.handler s.base c.args.handler.now in
          let since = Since-later (grown (ran there) n.grows) s in
          let up = grown (ran c.in_ok-values.ensures.runs) (grown (ran c.in_ok-record_constraints.ensures.runs) c.in_ok-goals.ensures.grows) in
          let settled = its_decided {t = c.args.table.now} {u = c.equate.new.table} {v = c.record_constraints.new.table} h mode i b c.args.goal x vs gs (rw c.deref-2.ensures.value v.equated) (rw (c.deref-3.ensures.value) at k.added) constraints c.requires.candidate.goals v.runs.goes.extends k.runs.goes.extends there.goes.extends n.grows.extends k.runs.goes.table within (rw c.deref-4.ensures.value at n.added.goals) c.terms_are_formed.ensures v.runs.goes.table n.added.posed c.requires.posed c.requires.candidate (c.needs_relating.ensures.no c.if-needs_relating.false) d c.record_constraints.new.table refl in
          let fails : is_err c.from_residual-in_err-certainty.result ≡ true = search rules in
          decides_error (joined c.try_evaluate_goals.result c.in_ok-kept.kept) c.from_residual-in_err-certainty.result fails (λ no. (let refused : c.try_evaluate_goals.result ≡ Err EvalError.NoSolution = search rules in joined_fails _ c.in_ok-kept.kept refused)) (λ no. no) (e.decided since i b settled (decides_grown c.requires.search up can));
    }

pub candidates::try_candidate-try_evaluate_goals-requires : goal.candidates::try_candidate-try_evaluate_goals-requires
candidates::try_candidate-try_evaluate_goals-requires g t c = λ κs k-1.
    let v = c.in_ok-values.ensures in
    let k = c.in_ok-record_constraints.ensures in
    let there = Runs-trans v.runs k.runs in
    let n = c.in_ok-goals.ensures in (
      omega (arith, c.decreases),
      (
        k-1,
        (
          c.pose_asked.ensures.runs.goes.table,
          (
            kept_posed c.in_ok-kept.ensures.asks,
            (
              g.met.H.GoalHandler.ready_kept _ _ _ c.requires.ready (Extends-trans (Extends-trans there.goes.extends n.grows.extends) c.pose_asked.ensures.runs.goes.extends),
              search_grows c.args.depth c.args.depth (omega arith) c.requires.search (grown (grown (ran c.in_ok-values.ensures.runs) (grown (ran c.in_ok-record_constraints.ensures.runs) c.in_ok-goals.ensures.grows)) (ran c.pose_asked.ensures.runs)),
            ),
          ),
        ),
      ),
    )

pub candidates::try_candidate-pose_asked-requires : goal.candidates::try_candidate-pose_asked-requires
candidates::try_candidate-pose_asked-requires g t c =
    let v = c.in_ok-values.ensures in
    let k = c.in_ok-record_constraints.ensures in
    let there = Runs-trans v.runs k.runs in
    let n = c.in_ok-goals.ensures in
    let upto = Runs-trans there (Runs-extends k.runs.goes.table n.grows.extends n.grows.rest) in
    let goal = IsPosed-later upto.goes c.requires.posed in
    record { goal = goal.holds.predicate; table = upto.goes.table; posed = n.added.posed }

pub candidates::try_candidate-returns-in_err-kept : goal.candidates::try_candidate-returns-in_err-kept
candidates::try_candidate-returns-in_err-kept g t c =
    let v = c.in_ok-values.ensures in
    let k = c.in_ok-record_constraints.ensures in
    let there = Runs-trans v.runs k.runs in
    let n = c.in_ok-goals.ensures in
    let upto = Runs-trans there (Runs-extends k.runs.goes.table n.grows.extends n.grows.rest) in
    let fails : is_err c.from_residual-in_err-kept.result ≡ true = search rules in
    record {
      runs = Runs-trans upto c.pose_asked.ensures.runs;
      searches = Searches-refl c.args.depth c.requires.search (grown (grown (ran c.in_ok-values.ensures.runs) (grown (ran c.in_ok-record_constraints.ensures.runs) c.in_ok-goals.ensures.grows)) (ran c.pose_asked.ensures.runs));
      labels = IfOk-from_err c.from_residual-in_err-kept.result _ fails;
      proved = search rules;
      told = λ s tells. IfOk-from_err c.from_residual-in_err-kept.result _ fails;
      refuted = search rules;
      decided = λ s i b d can. decides_fault c.from_residual-in_err-kept.result fails (search rules);
    }
