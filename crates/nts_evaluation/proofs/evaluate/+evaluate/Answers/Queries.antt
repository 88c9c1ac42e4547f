-- Longer answers for the functions that answer queries, in rounds.
use Rattle.std.proofs.Common.{◌≡◌, inl, arith, rules, ◌+◌, ◌≤◌, refl, ap, sym, ◌∙◌, subst, ◌∷◌, false, true}
use Rattle.std.specs.Prelude.{IfSome}
use Rattle.nts_store.specs.Growth.{tree_at}
use Rattle.nts_store.proofs.Growing.{Extends-trans}
use Rattle.nts_terms.specs.Modes.{mode_of}
use Rattle.nts_terms.proofs.Moved.{KeepsRest-trans}
use Rattle.nts_unify.specs.Reading.{content_of}
use Rattle.nts_table.specs.TableLaws.{IsTable-extended}
use Rattle.nts_candidates.specs.Offered.{path_kind_of}
use Rattle.nts_candidates.proofs.Results.{IfOk-map, OnOk-map}
use Rattle.nts_canonical.specs.Building.{kinds_of}
use Rattle.nts_canonical.specs.Forms.{form_of}
use Rattle.nts_response.specs.Forms.{response_at}
use Rattle.nts_meaning.specs.Meant.{ruling_since, Since, meaning_since, IsProvedNow}
use Rattle.nts_meaning.proofs.AskedGoals.{ok_both, ok_two, evaluates, asked_stays, asked_labels, response_refused, ok_three}
use Rattle.nts_meaning.proofs.Evaluating.{Runs-trans, Runs-extends, Since-later}
use Rattle.nts_trying.proofs.Probed.{found_fits, found_derived}
use Rattle.nts_model.specs.Derivations.Proofs.{passed}
use Rattle.nts_theory.proofs.Derivations.Assuming.{covers_passed}
use Rattle.nts_search.specs.Searching.{entry_at, entries_at}
use Rattle.nts_search.proofs.Stacked.{entries_popped}
use Rattle.nts_meaning.specs.Searching.{IsAnswerTold, IsHeadAnswer, assumed_in}
use Rattle.nts_meaning.proofs.Searching.{Searches-refl, Searches-trans, search_later, search_grown, search_grows, covers_grown, stays_more, tell_grown, heads_tell_later, search_unmarked, form_later}
use Rattle.nts_search.specs.declared.stack.StackEntry.{StackEntry}
use Rattle.nts_model.specs.Searching.Stacks.{IsDerivedFrom, IsProvedFrom, assumptions}
use Rattle.nts_trying.specs.Found.{Found}
use Rattle.nts_model.specs.Answers.Responses.{answer_sequent}
use Rattle.nts_meaning.proofs.Rounds.{own_asked, own_form, round_proved, round_told, grown, ran, search_then, entry_of, holds_answer, search_pushed, tell_pushed, search_popped, round_closes, last_fits, last_told, last_refuted, last_each, round_ends}
use Rattle.nts_asking.specs.Rounds.{rounds_before}
use Rattle.nts_asking.proofs.Rounds.{first_fits, first_told, ended_entry}
use Rattle.nts_certainty.specs.declared.certainty.Certainty.TheVariants as certainty
use Rattle.nts_table.specs.TableLaws.{IsTable-extended}
use Rattle.nts_decisions.proofs.UnchangedAnswers.{own_granted}
use Rattle.nts_evaluation.specs.Deciding.{CanDecide, IsRoundDecided}
use Rattle.nts_evaluation.proofs.Entered.{is_entered, entered_before}
use Rattle.nts_evaluation.proofs.Deciding.{decides_grown, decides_later, same_search, then_same}
use Rattle.nts_evaluation.proofs.DecidedTrials.{formed_before}
use Rattle.nts_evaluation.proofs.DecidedQueries.{its_kinds, decided_there}
use Rattle.nts_evaluation.proofs.DecidedRounds.{pushed_above, own_there, ended_decided, ended_fact, last_decided, applied_decided, as_query, originals_long, round_query}
use Rattle.nts_meaning.proofs.Searching.{nothing_stands}
use Rattle.nts_evaluation.proofs.FactQueries.{fact_begun, nothing_above, round_fact, fact_query, last_fact, applied_fact}
use Rattle.nts_evaluation.proofs.evaluate.+evaluate.Goals as goal

pub queries::evaluate_goal-returns : goal.queries::evaluate_goal-returns
queries::evaluate_goal-returns g t c =
    let q = c.in_ok-originals.ensures in
    let k = c.in_ok-answer.ensures in
    let e = c.apply_answer-evaluated.ensures in
    let all = Extends-trans (Extends-trans q.grows.extends k.grows.extends) e.runs.goes.extends in
    let holds = c.requires.posed.holds in
    let upto = search_then (c.args.depth + 1) c.requires.search q.grows k.searches in
    let A = passed (path_kind_of c.args.step) (assumed_in c.search.new.cx.nodes c.search.new.graph) in
    record {
      runs = Runs-trans (Runs-extends c.requires.posed.table (Extends-trans q.grows.extends k.grows.extends) (KeepsRest-trans q.grows.rest k.grows.rest)) c.apply_answer-evaluated.ensures.runs;
      searches = let q = c.in_ok-originals.ensures in search_grown (c.args.depth + 1) c.requires.search (search_then (c.args.depth + 1) c.requires.search q.grows c.in_ok-answer.ensures.searches) (ran c.apply_answer-evaluated.ensures.runs);
      err = search rules;
      labels = OnOk-map c.apply_answer-evaluated.result (λ h. asked_labels c.requires.posed q.query q.grows.extends c.in_ok-answer.ensures.grows.extends h) (rw c.deref.ensures.value at c.apply_answer-evaluated.ensures.labels);
      proved = λ s.
          let covers = covers_grown (c.args.depth + 1) (search_later (c.args.depth + 1) (c.args.depth + 1) (omega arith) c.requires.search upto) (ran e.runs) in
          ok_both c.apply_answer-evaluated.result
          (λ x is applied y.
          rw (all.kept c.args.goal.param_env.node holds.env.within, all.kept c.args.goal.predicate.node holds.predicate.within)
          (stays_more (covers_passed (path_kind_of c.args.step) (assumed_in c.search.new.cx.nodes c.search.new.graph) (assumed_in c.apply_answer-evaluated.new.cx.nodes c.search.new.graph) covers) (asked_stays c.requires.posed q.query q.grows.extends k.grows.extends c.apply_answer-evaluated.new.table c.in_ok-answer.answer.value applied (meaning_since (λ ts. g.H.GoalHandler.handler ts c.args.handler.now) s) (mode_of c.args.table.now.mode) A c.terms_are_formed.ensures e.runs.goes.table k.fits
          (rw q.query.mode at (k.proved (Since-later q.grows s) (sym is ∙ y))))))
          (rw c.deref-2.ensures at e.certainty) (rw (c.deref.ensures.value, c.deref-2.ensures) at e.applied);
      told = λ s tells.
          let told = k.told (Since-later q.grows s) (tell_grown (ruling_since (λ ts. g.H.GoalHandler.handler ts c.args.handler.now) s) (c.args.depth + 1) c.requires.search q.grows tells) in
          ok_three c.apply_answer-evaluated.result
          (λ x sure same applied. evaluates c.requires.posed q.query q.grows.extends k.grows.extends c.apply_answer-evaluated.new.table c.in_ok-answer.answer.value applied (ruling_since (λ ts. g.H.GoalHandler.handler ts c.args.handler.now) s) c.args.table.now.mode k.fits (rw q.query.mode at told) x.certainty sure x.has_changed same)
          (rw c.deref-2.ensures at e.certainty) (rw c.deref-2.ensures at e.changed) (rw (c.deref.ensures.value, c.deref-2.ensures) at e.applied);
      refuted = λ s tells n. inl (response_refused c.requires.posed q.query q.grows.extends k.grows.extends c.in_ok-answer.answer.value k.fits (rw q.query.mode at (k.told (Since-later q.grows s) (tell_grown (ruling_since (λ ts. g.H.GoalHandler.handler ts c.args.handler.now) s) (c.args.depth + 1) c.requires.search q.grows tells))) (rw (c.deref.ensures.value, c.deref-2.ensures) at (c.apply_answer-evaluated.ensures.no n)));
      decided = λ s n b d can.
          let x = k.decided (Since-later q.grows s) n b (as_query c.args.goal c.in_ok-originals.input.value n b q.query d) (decides_grown c.requires.search q.grows can) in
          let yes = x.answer in
          let own = yes.1.1 in
          let table = IsTable-extended (Extends-trans q.grows.extends k.grows.extends) c.requires.posed.table in
          let now = table.now in
          let proper = now.proper in
          applied_decided b c.apply_answer-evaluated.result yes.0 (IfOk-map c.apply_answer-evaluated.result (λ y e. e ∙ yes.1.0) (rw c.deref-2.ensures at e.certainty)) (IfOk-map c.apply_answer-evaluated.result (λ y e. e.1 own.identity) (rw c.deref-2.ensures at e.changed))
          (λ no. own_granted _ _ _ now.sound proper.solvable (own.own _ (originals_long _ c.args.goal c.in_ok-originals.input.value q.query)) (rw (c.deref.ensures.value, c.deref-2.ensures) at (c.apply_answer-evaluated.ensures.no no))) x.search;
      facts = λ s tells f never empty can.
          let h = g.H.GoalHandler.handler s.base c.args.handler.now in
          let ruled = ruling_since (λ ts. g.H.GoalHandler.handler ts c.args.handler.now) s in
          let later = tell_grown ruled (c.args.depth + 1) c.requires.search q.grows tells in
          let x = k.facts (Since-later q.grows s) later (fact_query c.args.goal c.in_ok-originals.input.value q.query f) (nothing_stands _ c.args.graph.now c.in_ok-originals.input.value empty) (decides_grown c.requires.search q.grows can) in
          let yes = x.answer in
          applied_fact c.apply_answer-evaluated.result (IfOk-map c.apply_answer-evaluated.result (λ y e. e ∙ yes.1) (rw c.deref-2.ensures at e.certainty))
          (λ n. never (response_refused c.requires.posed q.query q.grows.extends k.grows.extends c.in_ok-answer.answer.value k.fits (rw q.query.mode at (k.told (Since-later q.grows s) later)) (rw (c.deref.ensures.value, c.deref-2.ensures) at (c.apply_answer-evaluated.ensures.no n)))) x.search;
    }

pub queries::evaluate_goal-search-requires : goal.queries::evaluate_goal-search-requires
queries::evaluate_goal-search-requires g t c =
    λ κs k.
    let q = c.in_ok-originals.ensures in (
      omega (arith, c.decreases),
      (
        k,
        (
          q.query.asks,
          (
            g.met.H.GoalHandler.ready_kept _ _ _ c.requires.ready q.grows.extends,
            search_grows (c.args.depth + 1) (c.args.depth + 1) (omega arith) c.requires.search q.grows,
          ),
        ),
      ),
    )

pub queries::evaluate_round-compute_goal-response-requires : goal.queries::evaluate_round-compute_goal-response-requires
queries::evaluate_round-compute_goal-response-requires g t c =
    λ κs k-1.
    let k = c.in_ok-table.ensures in
    let x = rw c.deref.ensures at k.begins in (
      omega (arith, c.decreases),
      (
        k-1,
        (
          rw c.deref_mut.ensures.value x.posed,
          (
            g.met.H.GoalHandler.ready_kept _ _ _ c.requires.ready k.grows.extends,
            (
              rw (c.deref_mut.ensures.value, c.deref-2.ensures.value) x.args,
              search_pushed c.args.depth (rounds_before c.args.asked.value + 1) c.args.asked.value.input c.args.step c.args.asked.value.provisional c.requires.search (let limit = c.requires.limit in omega (arith, limit)) k.grows c.requires.input c.requires.provisional c.in_ok-push_query.ensures.pushed c.in_ok-push_query.ensures.kept c.push_query.ensures.rest,
            ),
          ),
        ),
      ),
    )

pub queries::evaluate_round-returns : goal.queries::evaluate_round-returns
queries::evaluate_round-returns g t c =
    let k = c.in_ok-table.ensures in
    let own = entry_of c.args.asked.value.input c.args.step c.args.asked.value.provisional (rounds_before c.args.asked.value + 1) c.in_ok-push_query.ensures.pushed.0 in
    let off = c.end_round.ensures.off in
    let taken = off.1 in
    let x = rw c.deref.ensures at k.begins in
    let a = c.args.cx.now.nodes in
    let b = c.query_table.new.cx.nodes in
    let z = c.compute_goal-response.new.cx.nodes in
    let input = c.args.asked.value.input in
    let ks = kinds_of input in
    let over = c.requires.input in
    let table = c.in_ok-table.table.value in
    let asked = c.in_ok-table.goal in
    let A = assumed_in z c.compute_goal-response.new.graph in
    let f = form_of c.args.cx.now.nodes c.args.asked.value.input in
    let mode = mode_of c.args.asked.value.input.typing_mode in
    record {
      grows = grown c.in_ok-table.ensures.grows c.compute_goal-response.ensures.grows;
      searches =
          let popped = search_popped {a = c.args.cx.now} {b = c.query_table.new.cx} {c = c.compute_goal-response.new.cx} {g = c.args.graph.now} {h = c.push_query.new.graph} {i = c.compute_goal-response.new.graph} {j = c.end_round.new.graph} (rounds_before c.args.asked.value + 1) own off.0 c.in_ok-push_query.ensures.pushed.1 c.push_query.ensures.rest c.compute_goal-response.ensures.searches taken.popped taken.kept taken.rest in
          popped.searches;
      counted =
          let limit = c.requires.limit in
          let pushed = search_pushed c.args.depth (rounds_before c.args.asked.value + 1) c.args.asked.value.input c.args.step c.args.asked.value.provisional c.requires.search (omega (arith, limit)) k.grows c.requires.input c.requires.provisional c.in_ok-push_query.ensures.pushed c.in_ok-push_query.ensures.kept c.push_query.ensures.rest in
          let popped = search_popped {a = c.args.cx.now} {b = c.query_table.new.cx} {c = c.compute_goal-response.new.cx} {g = c.args.graph.now} {h = c.push_query.new.graph} {i = c.compute_goal-response.new.graph} {j = c.end_round.new.graph} (rounds_before c.args.asked.value + 1) own off.0 c.in_ok-push_query.ensures.pushed.1 c.push_query.ensures.rest c.compute_goal-response.ensures.searches taken.popped taken.kept taken.rest in
          let counted = popped.counted in
          IfOk-map c.end_round.result (λ w ends. (omega (arith, counted), is_entered c.args.depth c.args.graph.now c.end_round.new.graph own pushed c.in_ok-push_query.ensures.pushed.1 c.compute_goal-response.ensures.searches taken.rest)) c.end_round.ensures.answer;
      entry =
          let popped = search_popped {a = c.args.cx.now} {b = c.query_table.new.cx} {c = c.compute_goal-response.new.cx} {g = c.args.graph.now} {h = c.push_query.new.graph} {i = c.compute_goal-response.new.graph} {j = c.end_round.new.graph} (rounds_before c.args.asked.value + 1) own off.0 c.in_ok-push_query.ensures.pushed.1 c.push_query.ensures.rest c.compute_goal-response.ensures.searches taken.popped taken.kept taken.rest in
          ended_entry own off.0 c.end_round.result popped.entry off.2;
      fits =
          IfOk-map c.end_round.result
          (λ w ends. round_ends (IsHeadAnswer z ks) c.compute_goal-response.result w.value.answer ends
          (λ r is.
          let found = rw (c.deref_mut.ensures.value, c.deref-2.ensures.value, is) at c.compute_goal-response.ensures.found in
          found_fits a b z c.in_ok-table.table.value c.in_ok-table.goal ks input c.in_ok-table.values.items r.value found over.input.kinds refl over.environment over.predicate x.first x.environment x.predicate x.posed.holds x.args x.values)
          (λ no. tt)) c.end_round.ensures.answer;
      proved = λ s.
          let h = meaning_since (λ ts. g.H.GoalHandler.handler ts c.args.handler.now) s in
          let popped = entries_popped z c.compute_goal-response.new.graph c.end_round.new.graph off.0 off.1.popped in
          ok_two c.end_round.result
          (λ w same ends.
          round_ends (λ o. IfSome o (λ r. r.value.certainty ≡ certainty.Yes → IsDerivedFrom h (mode_of input.typing_mode) (assumptions (entry_at z w.value.entry ∷ entries_at z c.end_round.new.graph)) (answer_sequent (form_of a input) (response_at z r)))) c.compute_goal-response.result w.value.answer ends
          (λ r is y.
          let found : Found (λ d u. (v : Since (λ ts. g.H.GoalHandler.ready ts c.args.handler.now) c.query_table.new.cx) → IsProvedNow (λ ts. g.H.GoalHandler.handler ts c.args.handler.now) v c.in_ok-table.table.value.mode (assumed_in c.compute_goal-response.new.cx.nodes c.compute_goal-response.new.graph) d u c.in_ok-table.goal) c.query_table.new.cx.nodes c.compute_goal-response.new.cx.nodes c.in_ok-table.table.value c.in_ok-table.goal c.in_ok-table.values.items r.value = rw (c.deref_mut.ensures.value, c.deref-2.ensures.value, is) at c.compute_goal-response.ensures.found in
          let proved : IsProvedFrom h (mode_of c.in_ok-table.table.value.mode) A (content_of found.store found.after.entries) (tree_at found.store asked.param_env.node) (tree_at found.store asked.predicate.node) = found.sure y (Since-later k.grows s) in
          let there : IsProvedFrom h (mode_of input.typing_mode) A (content_of found.store found.after.entries) (tree_at found.store asked.param_env.node) (tree_at found.store asked.predicate.node) = subst (λ v. IsProvedFrom h v A (content_of found.store found.after.entries) (tree_at found.store asked.param_env.node) (tree_at found.store asked.predicate.node)) x.mode proved in
          subst (λ (e : StackEntry). IsDerivedFrom h (mode_of input.typing_mode) (assumptions (entry_at z e ∷ entries_at z c.end_round.new.graph)) (answer_sequent (form_of a input) (response_at z r.value))) (sym same)
          (subst (λ es. IsDerivedFrom h (mode_of input.typing_mode) (assumptions es) (answer_sequent (form_of a input) (response_at z r.value))) popped
          (found_derived a b z table asked ks input c.in_ok-table.values.items r.value found over.input.kinds refl over.environment over.predicate x.first x.environment x.predicate x.posed.holds x.args x.values h (mode_of input.typing_mode) A y there)))
          (λ no. tt)) off.2 c.end_round.ensures.answer;
      told = λ s tells told.
          let h = ruling_since (λ ts. g.H.GoalHandler.handler ts c.args.handler.now) s in
          let before = (tell_pushed c.push_query.new.graph (ruling_since (λ ts. g.H.GoalHandler.handler ts c.args.handler.now) s) (c.args.depth + 1) (rounds_before c.args.asked.value + 1) c.args.asked.value.input c.args.step c.args.asked.value.provisional c.requires.search k.grows c.requires.input c.requires.provisional c.in_ok-push_query.ensures.pushed tells told) in
          IfOk-map c.end_round.result
          (λ w ends. round_ends (IsAnswerTold h mode c.compute_goal-response.new.cx.nodes f) c.compute_goal-response.result w.value.answer ends
          (λ r is. rw (x.first, x.environment, x.predicate, x.values, x.mode) at ((rw (c.deref_mut.ensures.value, c.deref-2.ensures.value, is) at (c.compute_goal-response.ensures.told (Since-later k.grows s) before)) (kinds_of c.args.asked.value.input)))
          (λ no. rw (x.first, x.environment, x.predicate, x.values, x.mode) at (rw (c.deref_mut.ensures.value, c.deref-2.ensures.value) at (c.compute_goal-response.ensures.refuted (Since-later k.grows s) before no))))
          c.end_round.ensures.answer;
      no = search rules;
      decided = λ s n j d can.
          let h = g.H.GoalHandler.handler s.base c.args.handler.now in
          let law = g.met.H.GoalHandler.lawful s.base c.args.handler.now s.formed s.is_ready in
          let formed = formed_before b z c.compute_goal-response.ensures.grows.extends c.terms_are_formed.ensures in
          let there = decided_there h law mode d.0 j a b input table asked c.in_ok-table.values.items over x formed d.2 in
          let up = decides_later d.0 c.args.depth c.requires.search k.grows (same_search _) (omega (arith, d.1)) (omega (arith, d.1, can.deep)) can in
          let here = form_later a b input k.grows.extends over in
          let above = pushed_above h law b d.0 j c.args.graph.now c.push_query.new.graph own c.in_ok-push_query.ensures.pushed.1 up.above (rw here d.2) in
          let rest = c.push_query.ensures.rest in
          let ready : CanDecide h c.query_table.new.cx c.push_query.new.graph d.0 c.args.depth = record { deep = up.deep; above = above; unmarked = rest.has_overflowed ∙ up.unmarked; steps = up.steps; rounds = up.rounds; tight = up.tight; fair = up.fair } in
          let y = c.compute_goal-response.ensures.decided (Since-later k.grows s) d.0 j (rw (c.deref_mut.ensures.value, c.deref-2.ensures.value) (there.query, rw x.mode there.decided)) ready in
          ended_decided j z ks c.args.graph.now c.push_query.new.graph c.compute_goal-response.new.graph c.end_round.new.graph own off.0 c.in_ok-push_query.ensures.pushed.1 rest.has_overflowed refl off.1 c.compute_goal-response.result c.end_round.result off.2 c.end_round.ensures.answer
          (IfOk-map c.compute_goal-response.result (λ r f. own_there _ _ ks (response_at z r.value) (its_kinds h law mode d.0 j a b input table asked c.in_ok-table.values.items over x formed d.2) (x.values) (f.says)) (rw (c.deref_mut.ensures.value, c.deref-2.ensures.value) at c.compute_goal-response.ensures.found)) y;
      facts = λ s tells told f can.
          let h = g.H.GoalHandler.handler s.base c.args.handler.now in
          let ruled = ruling_since (λ ts. g.H.GoalHandler.handler ts c.args.handler.now) s in
          let before = (tell_pushed c.push_query.new.graph ruled (c.args.depth + 1) (rounds_before c.args.asked.value + 1) c.args.asked.value.input c.args.step c.args.asked.value.provisional c.requires.search k.grows c.requires.input c.requires.provisional c.in_ok-push_query.ensures.pushed tells told) in
          let rest = c.push_query.ensures.rest in
          let up = decides_grown c.requires.search k.grows can in
          let ready : CanDecide h c.query_table.new.cx c.push_query.new.graph 0 c.args.depth = record { deep = omega arith; above = nothing_above h b c.push_query.new.graph; unmarked = rest.has_overflowed ∙ up.unmarked; steps = up.steps; rounds = up.rounds; tight = up.tight; fair = up.fair } in
          let formed = formed_before b z c.compute_goal-response.ensures.grows.extends c.terms_are_formed.ensures in
          let fact = fact_begun h a b input table asked c.in_ok-table.values.items over x formed f in
          let y = c.compute_goal-response.ensures.facts (Since-later k.grows s) before (rw (c.deref_mut.ensures.value, c.deref-2.ensures.value) fact) ready in
          ended_fact true z ks c.args.graph.now c.push_query.new.graph c.compute_goal-response.new.graph c.end_round.new.graph own off.0 c.in_ok-push_query.ensures.pushed.1 rest.has_overflowed refl off.1 c.compute_goal-response.result c.end_round.result off.2 c.end_round.ensures.answer y;
    }

pub queries::evaluate_rounds-evaluate_round-requires : goal.queries::evaluate_rounds-evaluate_round-requires
queries::evaluate_rounds-evaluate_round-requires g t c =
    λ κs k.
    let i = c.loop-round.invariant in (
      omega (arith, c.decreases),
      (
        k,
        (
          own_asked c.args.cx.now.nodes c.loop-round.cx.nodes c.args.input.value c.loop-round.asked.value.input i.grows.extends i.input c.requires.input,
          (
            rw i.input i.fits,
            (
              (let before = i.before in rw i.grows.rest.rounds (omega (arith, before, c.loop-round-test.true, c.round_limit-round-end.ensures))),
              (
                g.met.H.GoalHandler.ready_kept _ _ _ c.requires.ready i.grows.extends,
                search_later (c.args.depth + 1) (c.args.depth + 1) (omega arith) c.requires.search i.searches,
              ),
            ),
          ),
        ),
      ),
    )

pub queries::evaluate_rounds-loop-round-init : goal.queries::evaluate_rounds-loop-round-init
queries::evaluate_rounds-loop-round-init g t c =
    let u = c.in_ok-asked.ensures in
    let first = u.first in
    record {
      grows = u.grows;
      searches = Searches-refl (c.args.depth + 1) c.requires.search u.grows;
      counted = λ some. absurd (omega (arith, some));
      before = first.before;
      input = first.input;
      fits = first_fits c.first_round.new.cx.nodes c.args.input.value c.in_ok-asked.asked.value first;
      told = λ s tells. first_told (ruling_since (λ ts. g.H.GoalHandler.handler ts c.args.handler.now) s) (mode_of c.args.input.value.typing_mode) c.first_round.new.cx.nodes (form_of c.args.cx.now.nodes c.args.input.value) c.args.input.value c.in_ok-asked.asked.value refl first;
      first = λ e. same_search _;
      decided = λ s n b d can. refl;
      facts = λ s tells f can. refl;
    }

pub queries::evaluate_rounds-loop-round-preserved : goal.queries::evaluate_rounds-loop-round-preserved
queries::evaluate_rounds-loop-round-preserved g t c =
    let i = c.loop-round.invariant in
    let e = c.in_ok-ended.ensures in
    let z = c.evaluate_round.new.cx.nodes in
    let x = c.in_ok-ended.ended.value.entry in
    let fits : IsHeadAnswer c.evaluate_round.new.cx.nodes (kinds_of c.args.input.value) c.in_ok-ended.ended.value.answer = subst (λ w. IsHeadAnswer c.evaluate_round.new.cx.nodes (kinds_of w) c.in_ok-ended.ended.value.answer) i.input e.fits in
    let form = own_form c.args.cx.now.nodes c.loop-round.cx.nodes c.args.input.value c.loop-round.asked.value.input i.grows.extends i.input c.requires.input in
    let next = c.in_ok-asked-2.ensures in
    record {
      grows = grown i.grows e.grows;
      searches = Searches-trans i.searches e.searches;
      before = (let before = i.before in let was = e.entry.3 in next.before ∙ omega (arith, was, before));
      counted = λ some. (let counted = e.counted.0 in omega (arith, counted), entered_before c.args.graph.now i.searches e.counted.1);
      input = next.input ∙ e.entry.0 ∙ i.input;
      fits = subst (IsHeadAnswer c.evaluate_round.new.cx.nodes (kinds_of c.args.input.value)) (sym next.answer) fits;
      told = λ s tells.
          let h = ruling_since (λ ts. g.H.GoalHandler.handler ts c.args.handler.now) s in
          let mode = mode_of c.args.input.value.typing_mode in
          let later = heads_tell_later h (c.args.depth + 1) c.requires.search i.grows.extends i.searches tells in
          let before = round_told h c.loop-round.cx.nodes c.args.input.value c.loop-round.asked.value.input (form_of c.args.cx.now.nodes c.args.input.value) (form_of c.loop-round.cx.nodes c.loop-round.asked.value.input) c.loop-round.asked.value.provisional (sym i.input) (sym form) (i.told s tells) in
          let told = round_told h z c.loop-round.asked.value.input c.args.input.value (form_of c.loop-round.cx.nodes c.loop-round.asked.value.input) (form_of c.args.cx.now.nodes c.args.input.value) c.in_ok-ended.ended.value.answer i.input form (e.told (Since-later i.grows s) later before) in
          subst (IsAnswerTold h mode z (form_of c.args.cx.now.nodes c.args.input.value)) (sym next.answer) told;
      first = λ none. absurd (omega (arith, none));
      decided = λ s n b d can.
          let first = i.first (i.decided s n b d can) in
          let ended = e.decided (Since-later i.grows s) n b (round_query c.args.cx.now.nodes c.loop-round.cx.nodes c.args.input.value c.loop-round.asked.value.input n b i.input form d) (decides_later n (c.args.depth + 1) c.requires.search i.grows first (omega arith) can.deep can) in
          absurd (let last = c.round_is_last.ensures.1 (inl (rw c.deref.ensures ended.0)) in let more = c.if-round_is_last.false in cc (last, more));
      facts = λ s tells f can.
          let h = g.H.GoalHandler.handler s.base c.args.handler.now in
          let ruled = ruling_since (λ ts. g.H.GoalHandler.handler ts c.args.handler.now) s in
          let first = i.first (i.facts s tells f can) in
          let later = heads_tell_later ruled (c.args.depth + 1) c.requires.search i.grows.extends i.searches tells in
          let before = round_told ruled c.loop-round.cx.nodes c.args.input.value c.loop-round.asked.value.input (form_of c.args.cx.now.nodes c.args.input.value) (form_of c.loop-round.cx.nodes c.loop-round.asked.value.input) c.loop-round.asked.value.provisional (sym i.input) (sym form) (i.told s tells) in
          let ended = e.facts (Since-later i.grows s) later before (round_fact h c.args.cx.now.nodes c.loop-round.cx.nodes c.args.input.value c.loop-round.asked.value.input i.input form f) (decides_later 0 (c.args.depth + 1) c.requires.search i.grows first (omega arith) can.deep can) in
          absurd (let last = c.round_is_last.ensures.1 (inl (rw c.deref.ensures ended.0)) in let more = c.if-round_is_last.false in cc (last, more));
    }

pub queries::evaluate_rounds-returns-then-round_is_last : goal.queries::evaluate_rounds-returns-then-round_is_last
queries::evaluate_rounds-returns-then-round_is_last g t c =
    let i = c.loop-round.invariant in
    let e = c.in_ok-ended.ensures in
    let z = c.evaluate_round.new.cx.nodes in
    let x = c.in_ok-ended.ended.value.entry in
    let fits : IsHeadAnswer c.evaluate_round.new.cx.nodes (kinds_of c.args.input.value) c.in_ok-ended.ended.value.answer = subst (λ w. IsHeadAnswer c.evaluate_round.new.cx.nodes (kinds_of w) c.in_ok-ended.ended.value.answer) i.input e.fits in
    let form = own_form c.args.cx.now.nodes c.loop-round.cx.nodes c.args.input.value c.loop-round.asked.value.input i.grows.extends i.input c.requires.input in
    let mode = mode_of c.args.input.value.typing_mode in
    record {
      grows = grown c.loop-round.invariant.grows c.in_ok-ended.ensures.grows;
      searches = Searches-trans i.searches e.searches;
      counted = λ none limit answered. (let counted = e.counted.0 in omega (arith, counted), entered_before c.args.graph.now i.searches e.counted.1);
      fits = last_fits c.in_ok-ended.ended.value.answer c.last_answer.result c.last_answer.ensures.some c.last_answer.ensures.none z (kinds_of c.args.input.value) fits;
      proved = λ s.
          let m = meaning_since (λ ts. g.H.GoalHandler.handler ts c.args.handler.now) s in
          last_each c.in_ok-ended.ended.value.answer c.last_answer.result c.last_answer.ensures.some c.last_answer.ensures.none
          (λ r is sure.
          let last = rw (c.deref.ensures, c.deref-in-loop-round.ensures, is) at (c.round_is_last.ensures.0 c.if-round_is_last.true) in
          let derived = round_proved m z (assumptions (entry_at z x ∷ entries_at z c.evaluate_round.new.graph)) c.loop-round.asked.value.input c.args.input.value (form_of c.loop-round.cx.nodes c.loop-round.asked.value.input) (form_of c.args.cx.now.nodes c.args.input.value) c.in_ok-ended.ended.value.answer r i.input form is (e.proved (Since-later i.grows s)) sure in
          round_closes m (mode_of c.args.input.value.typing_mode) z c.evaluate_round.new.graph x c.args.input.value c.args.step (form_of c.args.cx.now.nodes c.args.input.value) r (e.entry.0 ∙ i.input) e.entry.1
          (form_later c.args.cx.now.nodes z c.args.input.value (Extends-trans i.grows.extends e.grows.extends) c.requires.input) last sure derived);
      told = λ s tells.
          let h = ruling_since (λ ts. g.H.GoalHandler.handler ts c.args.handler.now) s in
          let later = heads_tell_later h (c.args.depth + 1) c.requires.search i.grows.extends i.searches tells in
          let before = round_told h c.loop-round.cx.nodes c.args.input.value c.loop-round.asked.value.input (form_of c.args.cx.now.nodes c.args.input.value) (form_of c.loop-round.cx.nodes c.loop-round.asked.value.input) c.loop-round.asked.value.provisional (sym i.input) (sym form) (i.told s tells) in
          let told = round_told h z c.loop-round.asked.value.input c.args.input.value (form_of c.loop-round.cx.nodes c.loop-round.asked.value.input) (form_of c.args.cx.now.nodes c.args.input.value) c.in_ok-ended.ended.value.answer i.input form (e.told (Since-later i.grows s) later before) in
          last_told c.in_ok-ended.ended.value.answer c.last_answer.result c.last_answer.ensures.some c.last_answer.ensures.none h mode z (form_of c.args.cx.now.nodes c.args.input.value) told;
      refuted = λ s tells no.
          let h = ruling_since (λ ts. g.H.GoalHandler.handler ts c.args.handler.now) s in
          let later = heads_tell_later h (c.args.depth + 1) c.requires.search i.grows.extends i.searches tells in
          let before = round_told h c.loop-round.cx.nodes c.args.input.value c.loop-round.asked.value.input (form_of c.args.cx.now.nodes c.args.input.value) (form_of c.loop-round.cx.nodes c.loop-round.asked.value.input) c.loop-round.asked.value.provisional (sym i.input) (sym form) (i.told s tells) in
          let told = round_told h z c.loop-round.asked.value.input c.args.input.value (form_of c.loop-round.cx.nodes c.loop-round.asked.value.input) (form_of c.args.cx.now.nodes c.args.input.value) c.in_ok-ended.ended.value.answer i.input form (e.told (Since-later i.grows s) later before) in
          inl (last_refuted c.in_ok-ended.ended.value.answer c.last_answer.result c.last_answer.ensures.some c.last_answer.ensures.none h mode z (form_of c.args.cx.now.nodes c.args.input.value) told no);
      decided = λ s n b d can.
          let first = i.first (i.decided s n b d can) in
          let ended = e.decided (Since-later i.grows s) n b (round_query c.args.cx.now.nodes c.loop-round.cx.nodes c.args.input.value c.loop-round.asked.value.input n b i.input form d) (decides_later n (c.args.depth + 1) c.requires.search i.grows first (omega arith) can.deep can) in
          last_decided b z (kinds_of c.args.input.value) c.in_ok-ended.ended.value.answer c.last_answer.result c.last_answer.ensures.some c.last_answer.ensures.none
          (subst (λ w. IsRoundDecided b z (kinds_of w) c.in_ok-ended.ended.value.answer) i.input ended.1) (then_same first ended.2);
      facts = λ s tells f none can.
          let h = g.H.GoalHandler.handler s.base c.args.handler.now in
          let ruled = ruling_since (λ ts. g.H.GoalHandler.handler ts c.args.handler.now) s in
          let first = i.first (i.facts s tells f can) in
          let later = heads_tell_later ruled (c.args.depth + 1) c.requires.search i.grows.extends i.searches tells in
          let before = round_told ruled c.loop-round.cx.nodes c.args.input.value c.loop-round.asked.value.input (form_of c.args.cx.now.nodes c.args.input.value) (form_of c.loop-round.cx.nodes c.loop-round.asked.value.input) c.loop-round.asked.value.provisional (sym i.input) (sym form) (i.told s tells) in
          let ended = e.facts (Since-later i.grows s) later before (round_fact h c.args.cx.now.nodes c.loop-round.cx.nodes c.args.input.value c.loop-round.asked.value.input i.input form f) (decides_later 0 (c.args.depth + 1) c.requires.search i.grows first (omega arith) can.deep can) in
          last_fact c.in_ok-ended.ended.value.answer c.last_answer.result c.last_answer.ensures.some ended.1 (then_same first ended.2);
    }

pub queries::evaluate_rounds-round_is_last-requires-clause-answer : goal.queries::evaluate_rounds-round_is_last-requires-clause-answer
queries::evaluate_rounds-round_is_last-requires-clause-answer g t c =
    let i = c.loop-round.invariant in
    let e = c.in_ok-ended.ensures in
    let z = c.evaluate_round.new.cx.nodes in
    let x = c.in_ok-ended.ended.value.entry in
    let fits : IsHeadAnswer c.evaluate_round.new.cx.nodes (kinds_of c.args.input.value) c.in_ok-ended.ended.value.answer = subst (λ w. IsHeadAnswer c.evaluate_round.new.cx.nodes (kinds_of w) c.in_ok-ended.ended.value.answer) i.input e.fits in
    let form = own_form c.args.cx.now.nodes c.loop-round.cx.nodes c.args.input.value c.loop-round.asked.value.input i.grows.extends i.input c.requires.input in
    rw c.deref-in-loop-round.ensures (holds_answer z (kinds_of c.args.input.value) c.in_ok-ended.ended.value.answer fits)

pub queries::search-evaluate_rounds-answer-requires : goal.queries::search-evaluate_rounds-answer-requires
queries::search-evaluate_rounds-answer-requires g t c =
    λ κs k. (
      omega (arith, c.decreases),
      (
        k,
        (
          c.requires.input,
          (
            c.requires.ready,
            search_unmarked (c.args.depth + 1) false c.requires.search,
          ),
        ),
      ),
    )
