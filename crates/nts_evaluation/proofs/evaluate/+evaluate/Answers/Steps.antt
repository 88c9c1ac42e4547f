-- Longer answers for the functions that ask goals in steps.
use Rattle.std.proofs.Common.{◌≡◌, inl, inr, Err, arith, rules, ◌+◌, ◌≤◌, take, get_or, refl, ap, sym, ◌∙◌, subst, [], ◌∷◌, true, false, ◌++◌}
use Rattle.std.proofs.lemmas.List.{take_all, take_more}
use Rattle.std.specs.Prelude.{List}
use Rattle.nts_model.specs.Terms.Trees.{Tree}
use Rattle.nts_model.proofs.Tables.Bringing.{only-trans, only-refl}
use Rattle.nts_certainty.specs.declared.sources.GoalSource.{GoalSource}
use Rattle.nts_store.specs.Growth.{Extends}
use Rattle.nts_store.proofs.Growing.{Extends-refl, Extends-trans}
use Rattle.nts_terms.specs.declared.handles.Goal.{Goal}
use Rattle.nts_terms.proofs.Moved.{KeepsRest-refl}
use Rattle.nts_unify.specs.Lawful.{content_of-extended}
use Rattle.nts_candidates.proofs.Results.{IfOk-map, OnOk-map}
use Rattle.nts_meaning.specs.Meant.{ruling_since, IsNestedSince}
use Rattle.nts_trying.specs.Stepping.{AreLeft, AreSettled, bound_of, none_left}
use Rattle.nts_theory.specs.Telling.Reaches.{asks_nothing}
use Rattle.nts_meaning.proofs.AskedGoals.{evaluates_at}
use Rattle.nts_meaning.proofs.Cuts.{cut_at_first}
use Rattle.nts_terms.specs.Modes.{mode_of}
use Rattle.nts_trying.specs.Fast.{IsFastAnswer}
use Rattle.nts_trying.proofs.Labels.{only_resolved, only_same}
use Rattle.nts_meaning.proofs.Evaluating.{Goes-trans, Goes-extends, Runs-trans, Runs-extends, Runs-refl, Since-later, IsPosed-later}
use Rattle.nts_trying.proofs.Stepping.{among_get, posed_later, posed_left, only_one, only_left, reach_more, reach_still, after_error, stop_more, reach_step, stop_step, left_trans, settled_step, left_more, settled_proved, sure_more, left_refl}
use Rattle.nts_meaning.proofs.Running.{unread}
use Rattle.nts_search.specs.Kinds.{goal_kind_of}
use Rattle.nts_meaning.specs.Searching.{assumed_in}
use Rattle.nts_meaning.proofs.Searching.{Searches-refl, Searches-trans, search_later, search_grows, search_covers, tell_grown, heads_tell_later, search_marked, goal_cut_earlier}
use Rattle.nts_meaning.proofs.Rounds.{ran, search_then}
use Rattle.nts_certainty.specs.declared.sources.GoalSource.TheVariants as source
use Rattle.nts_store.specs.declared.fault.EvalError.TheVariants as EvalError
use Rattle.std.specs.Result.{is_err}
use Rattle.std.proofs.lemmas.Result.{IfOk-from_err}
use Rattle.nts_evaluation.proofs.evaluate.+evaluate.Goals.{queries::search-then-graph, queries::search-else-graph}
use Rattle.nts_evaluation.specs.Counting.{AsksOnce, AsksEach}
use Rattle.nts_evaluation.specs.Counting.AsksEach.{asks_none}
use Rattle.nts_evaluation.specs.Counting.MakesSteps.{no_step, then_steps}
use Rattle.nts_evaluation.proofs.Counted.{asked_more, counts_broken, is_on, is_off, reached}
use Rattle.nts_evaluation.proofs.Deciding.{decides_fault, decides_error, decides_then, decides_later, same_search, then_same}
use Rattle.nts_evaluation.proofs.Fast.{IsReadAs, answered_at_once, asked_at_once, stays_at_once, decided_so}
use Rattle.nts_evaluation.proofs.DecidedSteps.{next_goal, at_end, step_decided}
use Rattle.nts_trying.specs.Stepping.{left_after}
use Rattle.nts_evaluation.proofs.evaluate.+evaluate.Goals as goal

pub steps::evaluate_added-evaluate_goal-requires : goal.steps::evaluate_added-evaluate_goal-requires
steps::evaluate_added-evaluate_goal-requires g t c =
    λ κs k-1.
    let k = c.in_ok-asked.ensures in
    let less : c.in-Some-next.below + 1 ≤ bound_of c.args.depth = omega (arith, c.in-Some-next.ensures.within) in (
      omega (arith, c.decreases),
      (
        k-1,
        (
          k.posed,
          (
            g.met.H.GoalHandler.ready_kept _ _ _ c.requires.ready k.grows.extends,
            search_grows (bound_of c.args.depth) (c.in-Some-next.below + 1) less c.requires.search k.grows,
          ),
        ),
      ),
    )

pub steps::evaluate_added-returns-in_err-asked : goal.steps::evaluate_added-returns-in_err-asked
steps::evaluate_added-returns-in_err-asked g t c =
    let fails : is_err c.from_residual.result ≡ true = search rules in
    record {
      runs = Runs-extends c.requires.posed.table c.resolve_goal.ensures.grows.extends c.resolve_goal.ensures.grows.rest;
      searches = Searches-refl (bound_of c.args.depth) c.requires.search c.resolve_goal.ensures.grows;
      err = search rules;
      labels = search rules;
      proved = search rules;
      marks = λ s e. IfOk-from_err c.from_residual.result _ fails;
      told = search rules;
      refuted = search rules;
      decided = λ s n b d can. decides_fault c.from_residual.result (search rules) (search rules);
    }

pub steps::evaluate_added-returns-in-Some : goal.steps::evaluate_added-returns-in-Some
steps::evaluate_added-returns-in-Some g t c =
    let k = c.in_ok-asked.ensures in
    let up = k.grows.extends in
    let p = c.requires.posed in
    let reads : IsReadAs c.args.cx.now c.resolve_goal.new.cx c.args.table.now c.args.goal c.in_ok-asked.asked = record { env = k.env; predicate = k.predicate } in
    let fast : IsFastAnswer (g.H.GoalHandler.handler c.resolve_goal.new.cx.nodes c.args.handler.now) c.resolve_goal.new.cx c.in_ok-asked.asked c.in-Some.certainty = c.in-Some.ensures in
    let asked = asked_at_once reads fast in
    let answered = λ (b : List Tree) (r : g.H.GoalHandler.ready b c.args.handler.now) (e : Extends b c.args.cx.now.nodes). answered_at_once (g.met.H.GoalHandler.handler_kept b c.resolve_goal.new.cx.nodes c.args.handler.now r (Extends-trans e up)) k.grows reads fast in
    record {
      runs = Runs-extends p.table up k.grows.rest;
      searches = Searches-refl (bound_of c.args.depth) c.requires.search k.grows;
      err = search rules;
      labels = only_same _ up p.table refl;
      proved = λ s sure.
          (let law = g.met.H.GoalHandler.lawful s.base c.args.handler.now s.formed s.is_ready in
          let y = answered s.base s.is_ready s.extends in
          let here = stays_at_once (g.H.GoalHandler.handler s.base c.args.handler.now) s.variances (mode_of c.args.table.now.mode) _ law.at_once c.terms_are_formed.ensures p asked (rw sure at y.answers) in
          rw (up.kept c.args.goal.param_env.node p.holds.env.within, up.kept c.args.goal.predicate.node p.holds.predicate.within, content_of-extended up p.table.now) here);
      marks = λ s e. inr (answered s.base s.is_ready s.extends);
      told = λ s tells. inr (inr (answered s.base s.is_ready s.extends), refl, refl);
      refuted = search rules;
      decided = λ s n b d can.
          (let law = g.met.H.GoalHandler.lawful s.base c.args.handler.now s.formed s.is_ready in
          let x = decided_so (mode_of c.args.table.now.mode) d.0 b law.at_once can.fair asked d.2 (answered s.base s.is_ready s.extends) in
          record { answer = (x.0, (x.1, refl)); search = same_search _ });
    }

pub steps::evaluate_added-returns-in-None : goal.steps::evaluate_added-returns-in-None
steps::evaluate_added-returns-in-None g t c =
    let k = c.in_ok-asked.ensures in
    let up = k.grows.extends in
    let p = c.requires.posed in
    record {
      runs = Runs-extends p.table up k.grows.rest;
      searches = search_then (bound_of c.args.depth) c.requires.search k.grows (search_marked (bound_of c.args.depth) (search_grows (bound_of c.args.depth) (bound_of c.args.depth) (omega arith) c.requires.search k.grows));
      err = search rules;
      labels = only_same _ up p.table refl;
      proved = search rules;
      marks = λ s e. inl refl;
      told = λ s tells. inr (inl (c.next.ensures.too_deep.0 (search rules)), refl, refl);
      refuted = search rules;
      decided = λ s n b d can. absurd (let none = c.next.ensures.too_deep.0 (search rules) in omega (arith, none, can.deep, d.1));
    }

pub steps::evaluate_added-returns-in-Some-next : goal.steps::evaluate_added-returns-in-Some-next
steps::evaluate_added-returns-in-Some-next g t c =
    let k = c.in_ok-asked.ensures in
    let e = c.evaluate_goal.ensures in
    let p = c.requires.posed in
    let all = Goes-trans (Goes-extends p.table k.grows.extends) e.runs.goes in
    let env = e.runs.goes.extends.kept _ k.posed.holds.env.within ∙ k.env in
    let predicate = e.runs.goes.extends.kept _ k.posed.holds.predicate.within ∙ k.predicate in
    let same = content_of-extended k.grows.extends c.requires.posed.table.now in
    record {
      runs = Runs-trans (Runs-extends c.requires.posed.table c.in_ok-asked.ensures.grows.extends c.in_ok-asked.ensures.grows.rest) c.evaluate_goal.ensures.runs;
      searches = search_then (bound_of c.args.depth) c.requires.search c.in_ok-asked.ensures.grows c.evaluate_goal.ensures.searches;
      err = e.err;
      labels = OnOk-map c.evaluate_goal.result (λ h. only_resolved c.args.goal c.in_ok-asked.asked k.grows.extends c.requires.posed.table k.env k.predicate h) c.evaluate_goal.ensures.labels;
      proved = λ s.
          IfOk-map c.evaluate_goal.result
          (λ x f y.
          rw (all.extends.kept c.args.goal.param_env.node p.holds.env.within, all.extends.kept c.args.goal.predicate.node p.holds.predicate.within)
          (unread _ _ _ _ all env predicate p.knows.env p.knows.predicate (f y))) (e.proved (Since-later k.grows s));
      marks = λ s e. (let less : c.in-Some-next.below + 1 ≤ bound_of c.args.depth = omega (arith, c.in-Some-next.ensures.within) in absurd (omega (arith, e, less)));
      told = λ s tells. IfOk-map c.evaluate_goal.result (λ x f. inl (evaluates_at same (rw (k.env, k.predicate) at f))) (c.evaluate_goal.ensures.told (Since-later k.grows s) (tell_grown (ruling_since (λ ts. g.H.GoalHandler.handler ts c.args.handler.now) s) (bound_of c.args.depth) c.requires.search k.grows tells));
      refuted = λ s tells n. goal_cut_earlier k.grows.extends c.requires.search.stack c.requires.search.heads (rw (same, k.env, k.predicate) at (c.evaluate_goal.ensures.refuted (Since-later k.grows s) (tell_grown (ruling_since (λ ts. g.H.GoalHandler.handler ts c.args.handler.now) s) (bound_of c.args.depth) c.requires.search k.grows tells) n));
      decided = λ s n b d can.
          let depth : c.in-Some-next.below + 1 ≡ bound_of c.args.depth = c.in-Some-next.ensures.whole can.unmarked in
          c.evaluate_goal.ensures.decided (Since-later k.grows s) n b (d.0, d.1, rw (k.env, k.predicate) d.2) (decides_later n (c.in-Some-next.below + 1) c.requires.search k.grows (same_search _) (omega arith) (omega (arith, depth, can.deep)) can);
    }

pub steps::evaluate_step-evaluate_added-requires : goal.steps::evaluate_step-evaluate_added-requires
steps::evaluate_step-evaluate_added-requires g t c = λ κs k.
    let i = c.loop-added.invariant in (
      omega (arith, c.decreases),
      (
        k,
        (
          IsPosed-later i.runs.goes (c.requires.posed c.loop-added.added-index _ c.loop-added-test.true),
          (
            g.met.H.GoalHandler.ready_kept _ _ _ c.requires.ready i.runs.goes.extends,
            search_later (bound_of c.args.depth) (bound_of c.args.depth) (omega arith) c.requires.search i.searches,
          ),
        ),
      ),
    )

pub steps::evaluate_step-loop-added-init : goal.steps::evaluate_step-loop-added-init
steps::evaluate_step-loop-added-init g t c = record {
  runs = Runs-refl c.requires.table;
  searches = Searches-refl (bound_of c.args.depth) c.requires.search (record { extends = Extends-refl _; rest = KeepsRest-refl _ });
  left = subst (AreLeft []) (sym c.new-step.ensures.left) none_left;
  labels = only-refl _ _;
  proved = λ s y i. absurd i;
  sure = λ y. c.new-step.ensures.left;
  told = λ s tells. asks_nothing;
  asked = λ s tells. rw (c.new-step.ensures.left, c.new-step.ensures.unchanged) asks_none;
  decided = λ s n b here can. record { rest = here.decided; left = c.new-step.ensures.left; certain = c.new-step.ensures.certainty; unchanged = c.new-step.ensures.unchanged; search = same_search _ };
}

pub steps::evaluate_step-loop-added-preserved : goal.steps::evaluate_step-loop-added-preserved
steps::evaluate_step-loop-added-preserved g t c =
    let i = c.loop-added.invariant in
    let e = c.in_ok-answer.ensures in
    let n = c.in_ok-note.ensures in
    let gs = c.args.goals.now in
    let d : GoalSource × Goal = (source.Misc, record { param_env = record { node = record { number = 0 } }; predicate = record { node = record { number = 0 } } }) in
    let at = c.loop-added-test.true in
    let there = among_get gs c.loop-added.added-index d at in
    let now = search_later (bound_of c.args.depth) (bound_of c.args.depth) (omega arith) c.requires.search i.searches in
    let covers = search_covers (bound_of c.args.depth) now e.runs.goes.extends e.searches in
    record {
      runs = Runs-trans i.runs e.runs;
      searches = Searches-trans i.searches e.searches;
      left = rw (take_more gs c.loop-added.added-index d at) (subst (AreLeft (take c.loop-added.added-index gs ++ get_or gs c.loop-added.added-index d ∷ [])) (sym n.left) (left_more (get_or gs c.loop-added.added-index d) c.in_ok-answer.answer.certainty i.left));
      labels = only-trans i.labels (only_one gs (get_or gs c.loop-added.added-index d) i.runs.goes.extends c.requires.posed there e.labels);
      proved = λ s.
          subst (AreSettled (IsNestedSince (λ ts. g.H.GoalHandler.handler ts c.args.handler.now) s c.args.table.now.mode (goal_kind_of c.args.kind) (assumed_in c.evaluate_added.new.cx.nodes c.evaluate_added.new.graph) c.evaluate_added.new.cx.nodes c.evaluate_added.new.table) (take (c.loop-added.added-index + 1) gs)) (sym n.left)
          (settled_proved (assumed_in c.loop-added.cx.nodes c.loop-added.graph) (assumed_in c.evaluate_added.new.cx.nodes c.evaluate_added.new.graph) (λ ts. g.H.GoalHandler.handler ts c.args.handler.now) s c.args.table.now.mode (goal_kind_of c.args.kind) gs c.loop-added.step.left.items c.loop-added.added-index d c.in_ok-answer.answer.certainty at c.requires.posed i.runs.goes.extends e.runs.goes covers (rw (i.runs.goes.mode, c.step_kind_for_source-kind.ensures) at (e.proved (Since-later (ran i.runs) s))) (i.proved s));
      sure = λ y. n.left ∙ sure_more c.loop-added.step.certainty c.in_ok-answer.answer.certainty c.loop-added.step.left.items (get_or gs c.loop-added.added-index d) i.sure (sym n.certainty ∙ y);
      told = λ s tells. reach_more c.loop-added.table (ruling_since (λ ts. g.H.GoalHandler.handler ts c.args.handler.now) s) c.args.table.now.mode gs (get_or gs c.loop-added.added-index d) c.requires.posed there i.runs.goes.extends (i.told s tells) c.evaluate_added.new.table i.runs.goes.table e.runs.goes.extends (reached (rw i.runs.goes.mode at (e.told (Since-later (ran i.runs) s) (heads_tell_later (ruling_since (λ ts. g.H.GoalHandler.handler ts c.args.handler.now) s) (bound_of c.args.depth) c.requires.search i.runs.goes.extends i.searches tells))));
      asked = λ s tells.
          asked_more gs c.loop-added.added-index d c.in_ok-answer.answer at (i.asked s tells)
          (subst (λ mode. AsksOnce (ruling_since (λ ts. g.H.GoalHandler.handler ts c.args.handler.now) s) mode c.args.depth (c.loop-added.cx, c.loop-added.table) (c.evaluate_added.new.cx, c.evaluate_added.new.table) (get_or gs c.loop-added.added-index d) c.in_ok-answer.answer) i.runs.goes.mode (e.told (Since-later (ran i.runs) s) (heads_tell_later (ruling_since (λ ts. g.H.GoalHandler.handler ts c.args.handler.now) s) (bound_of c.args.depth) c.requires.search i.runs.goes.extends i.searches tells))) n.left n.changed;
      decided = λ s m b here can.
          let before = i.decided s m b here can in
          let next = next_goal (g.H.GoalHandler.handler s.base c.args.handler.now) m gs b c.loop-added.added-index d i.runs.goes c.requires.posed here at before.rest in
          let there = decides_later m (bound_of c.args.depth) c.requires.search (ran i.runs) before.search (omega arith) can.deep can in
          let x = e.decided (Since-later (ran i.runs) s) m next.answer next.below there in
          record {
            rest = next.yes x.answer.0;
            left = n.left ∙ ap (left_after c.loop-added.step.left.items (get_or gs c.loop-added.added-index d)) x.answer.1.0 ∙ before.left;
            certain = n.certainty ∙ rw (before.certain, x.answer.1.0) refl;
            unchanged = n.changed.1 (before.unchanged, x.answer.1.1);
            search = then_same before.search x.search;
          };
    }

pub steps::evaluate_step-returns : goal.steps::evaluate_step-returns
steps::evaluate_step-returns g t c =
    record {
      runs = search rules;
      searches = search rules;
      posed = (let i = c.loop-added.invariant in posed_left c.args.goals.now c.loop-added.step.left.items i.runs.goes c.requires.posed (rw (take_all c.loop-added.added-index c.args.goals.now c.loop-added-test.false) at i.left));
      left = (let i = c.loop-added.invariant in rw (take_all c.loop-added.added-index c.args.goals.now c.loop-added-test.false) at i.left);
      labels = search rules;
      proved = λ s. rw (take_all c.loop-added.added-index c.args.goals.now c.loop-added-test.false) at (c.loop-added.invariant.proved s);
      sure = search rules;
      told = search rules;
      asked = λ s tells. rw (take_all c.loop-added.added-index c.args.goals.now c.loop-added-test.false) at (c.loop-added.invariant.asked s tells);
      refuted = search rules;
      decided = λ s m b here can.
          let x = c.loop-added.invariant.decided s m b here can in
          record { answer = (at_end (g.H.GoalHandler.handler s.base c.args.handler.now) m c.args.cx.now.nodes c.args.table.now c.args.goals.now c.loop-added.added-index b (omega (arith, c.loop-added-test.false)) x.rest, (x.certain, x.unchanged)); search = x.search };
    }

pub steps::evaluate_step-returns-in_err-answer : goal.steps::evaluate_step-returns-in_err-answer
steps::evaluate_step-returns-in_err-answer g t c =
    let i = c.loop-added.invariant in
    let fails : is_err c.from_residual.result ≡ true = search rules in
    record {
      runs = Runs-trans c.loop-added.invariant.runs c.evaluate_added.ensures.runs;
      searches = Searches-trans c.loop-added.invariant.searches c.evaluate_added.ensures.searches;
      posed = IfOk-from_err c.from_residual.result _ fails;
      left = IfOk-from_err c.from_residual.result _ fails;
      labels = IfOk-from_err c.from_residual.result _ fails;
      proved = λ s. IfOk-from_err c.from_residual.result _ fails;
      sure = IfOk-from_err c.from_residual.result _ fails;
      told = λ s tells. reach_still c.args.cx.now.nodes c.args.table.now c.loop-added.table (ruling_since (λ ts. g.H.GoalHandler.handler ts c.args.handler.now) s) c.args.table.now.mode c.args.goals.now c.evaluate_added.ensures.runs.goes.extends i.runs.goes.table (after_error c.evaluate_added.result c.evaluate_added.ensures.err (search rules)) (i.told s tells);
      asked = λ s tells. IfOk-from_err c.from_residual.result _ fails;
      refuted = λ s tells n.
          let h = ruling_since (λ ts. g.H.GoalHandler.handler ts c.args.handler.now) s in
          let refused : c.evaluate_added.result ≡ Err EvalError.NoSolution = search rules in
          let later = heads_tell_later h (bound_of c.args.depth) c.requires.search i.runs.goes.extends i.searches tells in
          stop_more c.loop-added.table h c.args.table.now.mode c.args.goals.now _ c.requires.posed (among_get c.args.goals.now c.loop-added.added-index _ c.loop-added-test.true) i.runs.goes.extends (i.told s tells) i.runs.goes.table c.args.kind _ c.step_kind_for_source-kind.ensures c.args.graph.now
          (cut_at_first i.runs.goes.extends c.requires.search i.searches (rw i.runs.goes.mode at (c.evaluate_added.ensures.refuted (Since-later (ran i.runs) s) later refused)));
      decided = λ s m b here can.
          let before = i.decided s m b here can in
          let next = next_goal (g.H.GoalHandler.handler s.base c.args.handler.now) m c.args.goals.now b c.loop-added.added-index _ i.runs.goes c.requires.posed here c.loop-added-test.true before.rest in
          let there = decides_later m (bound_of c.args.depth) c.requires.search (ran i.runs) before.search (omega arith) can.deep can in
          decides_then before.search (decides_error c.evaluate_added.result c.from_residual.result fails (λ no. (search rules)) next.no (c.evaluate_added.ensures.decided (Since-later (ran i.runs) s) m next.answer next.below there));
    }

pub steps::evaluate_step-returns-in_err-note : goal.steps::evaluate_step-returns-in_err-note
steps::evaluate_step-returns-in_err-note g t c =
    let fails : is_err c.from_residual-in_err-note.result ≡ true = search rules in
    record {
      runs = Runs-trans c.loop-added.invariant.runs c.evaluate_added.ensures.runs;
      searches = Searches-trans c.loop-added.invariant.searches c.evaluate_added.ensures.searches;
      posed = IfOk-from_err c.from_residual-in_err-note.result _ fails;
      left = IfOk-from_err c.from_residual-in_err-note.result _ fails;
      labels = IfOk-from_err c.from_residual-in_err-note.result _ fails;
      proved = λ s. IfOk-from_err c.from_residual-in_err-note.result _ fails;
      sure = IfOk-from_err c.from_residual-in_err-note.result _ fails;
      told = λ s tells.
          let i = c.loop-added.invariant in
          let e = c.in_ok-answer.ensures in
          reach_more c.loop-added.table (ruling_since (λ ts. g.H.GoalHandler.handler ts c.args.handler.now) s) c.args.table.now.mode c.args.goals.now _ c.requires.posed (among_get c.args.goals.now c.loop-added.added-index _ c.loop-added-test.true) i.runs.goes.extends (i.told s tells) c.evaluate_added.new.table i.runs.goes.table e.runs.goes.extends (reached (rw i.runs.goes.mode at (e.told (Since-later (ran i.runs) s) (heads_tell_later (ruling_since (λ ts. g.H.GoalHandler.handler ts c.args.handler.now) s) (bound_of c.args.depth) c.requires.search i.runs.goes.extends i.searches tells))));
      asked = λ s tells. IfOk-from_err c.from_residual-in_err-note.result _ fails;
      refuted = search rules;
      decided = λ s m b here can. decides_fault c.from_residual-in_err-note.result fails (search rules);
    }

pub steps::try_evaluate_goals-evaluate_step-requires : goal.steps::try_evaluate_goals-evaluate_step-requires
steps::try_evaluate_goals-evaluate_step-requires g t c =
    λ κs k.
    let i = c.loop-step.invariant in (
      omega (arith, c.decreases),
      (
        k,
        (
          i.runs.goes.table,
          (
            rw c.deref.ensures.value i.posed,
            (
              g.met.H.GoalHandler.ready_kept _ _ _ c.requires.ready i.runs.goes.extends,
              search_later (bound_of c.args.depth) (bound_of c.args.depth) (omega arith) c.requires.search i.searches,
            ),
          ),
        ),
      ),
    )

pub steps::try_evaluate_goals-loop-step-init : goal.steps::try_evaluate_goals-loop-step-init
steps::try_evaluate_goals-loop-step-init g t c = record {
  runs = Runs-refl c.requires.table;
  searches = Searches-refl (bound_of c.args.depth) c.requires.search (record { extends = Extends-refl _; rest = KeepsRest-refl _ });
  steps = omega arith;
  counted = refl;
  counts = λ s tells. no_step;
  posed = c.requires.posed;
  left = left_refl _;
  labels = only-refl _ _;
  proved = λ s y i. inl i;
  told = λ s tells. asks_nothing;
  first = λ e. (refl, refl, refl, refl);
  decided = λ s n b d can. refl;
}

pub steps::try_evaluate_goals-loop-step-preserved : goal.steps::try_evaluate_goals-loop-step-preserved
steps::try_evaluate_goals-loop-step-preserved g t c =
    let i = c.loop-step.invariant in
    let e = c.in_ok-stepped.ensures in
    record {
      runs = Runs-trans i.runs e.runs;
      searches = Searches-trans i.searches e.searches;
      steps = omega (arith, c.loop-step-test.true, c.step_limit-step-end.ensures);
      counted = refl;
      counts = λ s tells.
          then_steps (i.counts s tells)
          (subst (λ mode. AsksEach (AsksOnce (ruling_since (λ ts. g.H.GoalHandler.handler ts c.args.handler.now) s) mode c.args.depth) (c.loop-step.cx, c.loop-step.table) c.loop-step.goals.items (c.evaluate_step.new.cx, c.evaluate_step.new.table) c.in_ok-stepped.stepped.left.items true) i.runs.goes.mode
          (rw (c.deref.ensures.value, is_on c.in_ok-stepped.stepped.has_changed c.if-not-stepped.false) at (c.in_ok-stepped.ensures.asked (Since-later (ran i.runs) s) (heads_tell_later (ruling_since (λ ts. g.H.GoalHandler.handler ts c.args.handler.now) s) (bound_of c.args.depth) c.requires.search i.runs.goes.extends i.searches tells))));
      posed = e.posed;
      left = left_trans i.left (rw c.deref.ensures.value at e.left);
      labels = only-trans i.labels (only_left c.args.goals.now.items c.loop-step.goals.items i.runs.goes.extends c.requires.posed i.left (rw c.deref.ensures.value at e.labels));
      proved = λ s.
          let i = c.loop-step.invariant in
          let e = c.in_ok-stepped.ensures in
          settled_step (assumed_in c.loop-step.cx.nodes c.loop-step.graph) (assumed_in c.evaluate_step.new.cx.nodes c.evaluate_step.new.graph) (λ ts. g.H.GoalHandler.handler ts c.args.handler.now) s c.args.table.now.mode (goal_kind_of c.args.kind) c.args.goals.now.items c.loop-step.goals.items c.in_ok-stepped.stepped.left.items c.requires.posed i.runs.goes.extends e.runs.goes (search_covers (bound_of c.args.depth) (search_later (bound_of c.args.depth) (bound_of c.args.depth) (omega arith) c.requires.search i.searches) e.runs.goes.extends e.searches) (i.proved s) (rw (i.runs.goes.mode, c.deref.ensures.value) at (e.proved (Since-later (ran i.runs) s)));
      told = λ s tells.
          let i = c.loop-step.invariant in
          let e = c.in_ok-stepped.ensures in
          reach_step c.loop-step.table (ruling_since (λ ts. g.H.GoalHandler.handler ts c.args.handler.now) s) c.args.table.now.mode c.args.goals.now.items c.loop-step.goals.items c.requires.posed i.left i.runs.goes.extends (i.told s tells) c.evaluate_step.new.cx.nodes c.evaluate_step.new.table (rw (i.runs.goes.mode, c.deref.ensures.value) at (e.told (Since-later (ran i.runs) s) (heads_tell_later (ruling_since (λ ts. g.H.GoalHandler.handler ts c.args.handler.now) s) (bound_of c.args.depth) c.requires.search i.runs.goes.extends i.searches tells)));
      first = λ e. absurd (omega (arith, e));
      decided = λ s n b d can.
          let first = i.first (i.decided s n b d can) in
          let x = step_decided (g.H.GoalHandler.handler s.base c.args.handler.now) n b first.0 first.1 first.2 (rw c.deref.ensures.value first.3) d can (e.decided (Since-later (ran i.runs) s) n b) in
          absurd (let more = c.if-not-stepped.false in let off = x.answer.1.1 in let clash = rw off at more in cc clash);
    }

pub steps::try_evaluate_goals-returns : goal.steps::try_evaluate_goals-returns
steps::try_evaluate_goals-returns g t c =
    let i = c.loop-step.invariant in
    record {
      runs = i.runs;
      searches = i.searches;
      steps = i.steps;
      counts = λ s tells. (true, rw i.counted (i.counts s tells), inr (let all = i.counted in omega (arith, all, i.steps, c.loop-step-test.false, c.step_limit-step-end.ensures)));
      posed = i.posed;
      left = i.left;
      labels = i.labels;
      proved = i.proved;
      sure = search rules;
      told = i.told;
      refuted = search rules;
      decided = λ s n b d can. (let first = i.decided s n b d can in absurd (omega (arith, first, can.steps, c.loop-step-test.false, c.step_limit-step-end.ensures)));
    }

pub steps::try_evaluate_goals-returns-in_err-stepped : goal.steps::try_evaluate_goals-returns-in_err-stepped
steps::try_evaluate_goals-returns-in_err-stepped g t c =
    let i = c.loop-step.invariant in
    let fails : is_err c.from_residual.result ≡ true = search rules in
    record {
      runs = Runs-trans c.loop-step.invariant.runs c.evaluate_step.ensures.runs;
      searches = Searches-trans c.loop-step.invariant.searches c.evaluate_step.ensures.searches;
      steps = search rules;
      counts = λ s tells. counts_broken c.args.cx.now.step_limit _ c.from_residual.result fails refl (i.counts s tells);
      posed = posed_later c.loop-step.goals.items c.evaluate_step.ensures.runs.goes c.loop-step.invariant.posed;
      left = c.loop-step.invariant.left;
      labels = IfOk-from_err c.from_residual.result _ fails;
      proved = λ s. IfOk-from_err c.from_residual.result _ fails;
      sure = search rules;
      told = λ s tells. reach_step c.loop-step.table (ruling_since (λ ts. g.H.GoalHandler.handler ts c.args.handler.now) s) c.args.table.now.mode c.args.goals.now.items c.loop-step.goals.items c.requires.posed i.left i.runs.goes.extends (i.told s tells) c.evaluate_step.new.cx.nodes c.evaluate_step.new.table (rw (i.runs.goes.mode, c.deref.ensures.value) at (c.evaluate_step.ensures.told (Since-later (ran i.runs) s) (heads_tell_later (ruling_since (λ ts. g.H.GoalHandler.handler ts c.args.handler.now) s) (bound_of c.args.depth) c.requires.search i.runs.goes.extends i.searches tells)));
      refuted = λ s tells n.
          let h = ruling_since (λ ts. g.H.GoalHandler.handler ts c.args.handler.now) s in
          let refused : c.evaluate_step.result ≡ Err EvalError.NoSolution = search rules in
          let search = c.requires.search in
          stop_step c.loop-step.table h c.args.table.now.mode c.args.goals.now.items c.loop-step.goals.items c.requires.posed i.left i.runs.goes.extends (i.told s tells) c.args.graph.now c.loop-step.graph c.args.kind search.stack search.heads (let y = i.searches in y.later)
          (rw (i.runs.goes.mode, c.deref.ensures.value) at (c.evaluate_step.ensures.refuted (Since-later (ran i.runs) s) (heads_tell_later (ruling_since (λ ts. g.H.GoalHandler.handler ts c.args.handler.now) s) (bound_of c.args.depth) c.requires.search i.runs.goes.extends i.searches tells) refused));
      decided = λ s n b d can.
          let first = i.first (i.decided s n b d can) in
          let x = step_decided (g.H.GoalHandler.handler s.base c.args.handler.now) n b first.0 first.1 first.2 (rw c.deref.ensures.value first.3) d can (c.evaluate_step.ensures.decided (Since-later (ran i.runs) s) n b) in
          decides_error c.evaluate_step.result c.from_residual.result fails (λ no. (search rules)) (λ no. no) x;
    }

pub steps::try_evaluate_goals-returns-then-not-stepped : goal.steps::try_evaluate_goals-returns-then-not-stepped
steps::try_evaluate_goals-returns-then-not-stepped g t c =
    let i = c.loop-step.invariant in
    let e = c.in_ok-stepped.ensures in
    record {
      runs = Runs-trans c.loop-step.invariant.runs c.in_ok-stepped.ensures.runs;
      searches = Searches-trans c.loop-step.invariant.searches c.in_ok-stepped.ensures.searches;
      steps = search rules;
      counts = λ s tells.
          let last = subst (λ mode. AsksEach (AsksOnce (ruling_since (λ ts. g.H.GoalHandler.handler ts c.args.handler.now) s) mode c.args.depth) (c.loop-step.cx, c.loop-step.table) c.loop-step.goals.items (c.evaluate_step.new.cx, c.evaluate_step.new.table) c.in_ok-stepped.stepped.left.items false) i.runs.goes.mode
          (rw (c.deref.ensures.value, is_off c.in_ok-stepped.stepped.has_changed c.if-not-stepped.true) at (c.in_ok-stepped.ensures.asked (Since-later (ran i.runs) s) (heads_tell_later (ruling_since (λ ts. g.H.GoalHandler.handler ts c.args.handler.now) s) (bound_of c.args.depth) c.requires.search i.runs.goes.extends i.searches tells))) in
          (false, then_steps (i.counts s tells) last, inl refl);
      posed = search rules;
      left = left_trans i.left (rw c.deref.ensures.value at c.in_ok-stepped.ensures.left);
      labels = only-trans i.labels (only_left c.args.goals.now.items c.loop-step.goals.items i.runs.goes.extends c.requires.posed i.left (rw c.deref.ensures.value at c.in_ok-stepped.ensures.labels));
      proved = λ s. settled_step (assumed_in c.loop-step.cx.nodes c.loop-step.graph) (assumed_in c.evaluate_step.new.cx.nodes c.evaluate_step.new.graph) (λ ts. g.H.GoalHandler.handler ts c.args.handler.now) s c.args.table.now.mode (goal_kind_of c.args.kind) c.args.goals.now.items c.loop-step.goals.items c.in_ok-stepped.stepped.left.items c.requires.posed i.runs.goes.extends e.runs.goes (search_covers (bound_of c.args.depth) (search_later (bound_of c.args.depth) (bound_of c.args.depth) (omega arith) c.requires.search i.searches) e.runs.goes.extends e.searches) (i.proved s) (rw (i.runs.goes.mode, c.deref.ensures.value) at (e.proved (Since-later (ran i.runs) s)));
      sure = search rules;
      told = λ s tells. reach_step c.loop-step.table (ruling_since (λ ts. g.H.GoalHandler.handler ts c.args.handler.now) s) c.args.table.now.mode c.args.goals.now.items c.loop-step.goals.items c.requires.posed i.left i.runs.goes.extends (i.told s tells) c.evaluate_step.new.cx.nodes c.evaluate_step.new.table (rw (i.runs.goes.mode, c.deref.ensures.value) at (e.told (Since-later (ran i.runs) s) (heads_tell_later (ruling_since (λ ts. g.H.GoalHandler.handler ts c.args.handler.now) s) (bound_of c.args.depth) c.requires.search i.runs.goes.extends i.searches tells)));
      refuted = search rules;
      decided = λ s n b d can.
          let first = i.first (i.decided s n b d can) in
          let x = step_decided (g.H.GoalHandler.handler s.base c.args.handler.now) n b first.0 first.1 first.2 (rw c.deref.ensures.value first.3) d can (e.decided (Since-later (ran i.runs) s) n b) in
          record { answer = (x.answer.0, x.answer.1.0); search = x.search };
    }
