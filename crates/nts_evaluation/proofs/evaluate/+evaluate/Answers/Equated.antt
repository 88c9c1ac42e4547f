-- Goals that an alias is equal to a term.
use Rattle.std.proofs.Common.{◌≡◌, ◌⊎◌, Err, Ok, None, inl, inr, ⊎_elim, arith, rules, ap, sym, ◌∙◌}
use Rattle.nts_model.specs.Terms.Trees.{Tree}
use Rattle.nts_model.specs.Derivations.Handlers.{meaning}
use Rattle.nts_theory.specs.Aliasing.{IsLesserGoal}
use Rattle.nts_store.specs.Growth.{tree_at}
use Rattle.nts_store.specs.declared.fault.EvalError.TheVariants as EvalError
use Rattle.nts_store.proofs.Growing.{Extends-refl}
use Rattle.nts_terms.specs.Modes.{mode_of}
use Rattle.nts_unify.specs.Reading.{content_of}
use Rattle.nts_unify.specs.Lawful.{content_of-extended}
use Rattle.nts_candidates.proofs.Results.{IfOk-map}
use Rattle.nts_canonical.specs.Forms.{trees_of}
use Rattle.nts_response.specs.Forms.{response_at}
use Rattle.nts_search.specs.declared.kinds.CurrentGoalKind.TheVariants as Kinds
use Rattle.nts_meaning.specs.Answering.{is_yes, verdict_at}
use Rattle.nts_meaning.specs.Meant.{ruling_since, Since}
use Rattle.nts_meaning.specs.Searching.{assumed_in, HeadsTell}
use Rattle.nts_meaning.specs.Evaluation.{goals_at}
use Rattle.nts_meaning.proofs.AnsweredQueries.{args_later}
use Rattle.nts_meaning.proofs.AskedGoals.{trees_kept}
use Rattle.nts_meaning.proofs.Evaluating.{Goes-trans, Goes-extends, IsPosed-later, Runs-trans, Since-later, goes-back, rolled_back}
use Rattle.nts_meaning.proofs.Rounds.{ran, search_then, grown}
use Rattle.nts_meaning.proofs.Running.{term_table}
use Rattle.nts_meaning.proofs.Searching.{Searches-refl, Searches-trans, heads_tell_later, search_grown, search_grows, search_later, covers_grown, tell_grown}
use Rattle.nts_trying.proofs.LesserGoals.{equated_later}
use Rattle.nts_trying.proofs.NormalizedGoals.{left_normal}
use Rattle.nts_trying.proofs.Outcomes.{found_earlier}
use Rattle.nts_trying.proofs.Opened.{labels_through, normal_through, normal_told, normal_stops, nothing_through, labels_entered}
use Rattle.nts_trying.proofs.Probed.{found_in, found_still, went_in, plain_of, not_kept, says_found, says_before, doubtful}
use Rattle.nts_trying.proofs.Ran.{proved_all}
use Rattle.nts_trying.proofs.Stepping.{stopped_refused}
use Rattle.nts_evaluation.proofs.DecidedGoals.{is_asked_here, outlives_in, states_own, way_states_own}
use Rattle.nts_evaluation.proofs.FactTrials.{fact_asked}
use Rattle.nts_evaluation.proofs.Failing.{way_failed, goal_failed}
use Rattle.nts_evaluation.proofs.NormalLeft.{normal_more, all_relating, way_told_earlier, way_refuted_earlier, lesser_told, one_told, lesser_no}
use Rattle.nts_terms.proofs.Moved.{KeepsRest-refl}
use Rattle.nts_evaluation.proofs.evaluate.+evaluate.Goals as goal
use Rattle.nts_theory.specs.Telling.{IsOpenToNormalizing, IsPlainResponse}
use Rattle.nts_theory.specs.RelatingCandidates.{IsCutIn}

pub rows::compute_goal-evaluate_equated-response-requires : goal.rows::compute_goal-evaluate_equated-response-requires
rows::compute_goal-evaluate_equated-response-requires g t c = λ κs k.
    let o = c.in_ok-opened.ensures in
    let normal : IsOpenToNormalizing (mode_of c.enter_forall.new.table.mode) (tree_at c.enter_forall.new.cx.nodes c.in-Equated.opened.predicate.node) = elim (c.is_open_to_normalizing.ensures.open c.if-not-is_open_to_normalizing.false) [
      | inl x ↦ inl (rw c.typing_mode.ensures at x)
      | inr y ↦ inr y.1
    ] in (
      omega (arith, c.decreases),
      (
        k,
        (
          rw c.in-Equated.ensures.0 at o.posed,
          (
            c.in-Equated.ensures.1,
            (
              normal,
              (
                g.met.H.GoalHandler.ready_kept _ _ _ c.requires.ready o.grows.extends,
                (
                  args_later c.args.cx.now.nodes c.enter_forall.new.cx.nodes c.args.table.now.entries c.enter_forall.new.table.entries c.args.values.now o.goes.extends o.goes.continues c.requires.values,
                  search_grows c.args.depth c.args.depth (omega arith) c.requires.search o.grows,
                ),
              ),
            ),
          ),
        ),
      ),
    )

-- in coherence it is in doubt, unless no alias stands in the term
pub rows::compute_goal-returns-in_err-doubt-in-Equated : goal.rows::compute_goal-returns-in_err-doubt-in-Equated
rows::compute_goal-returns-in_err-doubt-in-Equated g t c =
    goal_failed c.from_residual-in_err-doubt-in-Equated.result (search rules) (search rules) (search rules) (Searches-refl c.args.depth c.requires.search (grown c.in_ok-opened.ensures.grows c.boxed_response-then-not-is_open_to_normalizing.ensures.grows))

pub rows::compute_goal-returns-then-not-is_open_to_normalizing : goal.rows::compute_goal-returns-then-not-is_open_to_normalizing
rows::compute_goal-returns-then-not-is_open_to_normalizing g t c =
    let o = c.in_ok-opened.ensures in
    let r = c.in_ok-doubt-in-Equated.ensures in
    let opened = rw c.in-Equated.ensures.0 at o.opened in
    let posed = rw c.in-Equated.ensures.0 at o.posed in
    let before = c.in-Equated.ensures.2 in
    let trees = trees_kept c.args.cx.now.nodes c.enter_forall.new.cx.nodes c.args.table.now.entries c.args.values.now o.grows.extends c.requires.values in
    let plain : IsPlainResponse (content_of c.enter_forall.new.cx.nodes c.enter_forall.new.table.entries) (trees_of c.enter_forall.new.cx.nodes c.args.values.now) (response_at c.boxed_response-then-not-is_open_to_normalizing.new.cx.nodes c.in_ok-doubt-in-Equated.doubt.value) = r.says in
    record {
      grows = search rules;
      searches = Searches-refl c.args.depth c.requires.search (grown o.grows r.grows);
      found = found_in c.in_ok-doubt-in-Equated.doubt.value _ o.goes c.terms_are_formed.ensures r.grows.extends (labels_entered c.requires.posed opened o.grows.extends) c.requires.values r.certainty r.says r.holds (record { no_hidden = r.nothing.0; no_goals = r.nothing.1 }) (λ y. absurd (doubtful _ y));
      told = λ s tells. nothing_through c.requires.posed opened o.grows.extends (ruling_since (λ ts. g.H.GoalHandler.handler ts c.args.handler.now) s) c.args.table.now.mode c.args.values.now _ c.in_ok-doubt-in-Equated.doubt.value trees (ap is_yes r.certainty) plain;
      refuted = search rules;
      decided = λ s n b d can.
          ⊎_elim
          (λ asked. absurd (before.not_asked asked))
          (λ w. absurd (⊎_elim (λ y. before.no_outlives _ (outlives_in y.says)) (λ v. before.not_own (⊎_elim (λ y. states_own y) (λ y. way_states_own y) v)) w))
          (is_asked_here (g.H.GoalHandler.handler s.base c.args.handler.now) (g.met.H.GoalHandler.lawful s.base c.args.handler.now s.formed s.is_ready) (mode_of c.args.table.now.mode) n b c.args.goal c.args.values.now d.0 d.1 c.requires.posed c.terms_are_formed.ensures o.grows.extends _ opened posed);
      facts = λ s tells f can.
          let settled = f.settled in
          absurd (before.not_asked (fact_asked (g.H.GoalHandler.handler s.base c.args.handler.now) (mode_of c.args.table.now.mode) c.args.cx.now.nodes c.enter_forall.new.cx.nodes c.args.table.now c.enter_forall.new.table c.args.goal _ opened settled c.requires.posed posed o.grows.extends));
    }

pub rows::compute_goal-boxed_response-requires-then-not-is_open_to_normalizing-clause-values : goal.rows::compute_goal-boxed_response-requires-then-not-is_open_to_normalizing-clause-values
rows::compute_goal-boxed_response-requires-then-not-is_open_to_normalizing-clause-values g t c =
    let o = c.in_ok-opened.ensures in
    args_later c.args.cx.now.nodes c.enter_forall.new.cx.nodes c.args.table.now.entries c.enter_forall.new.table.entries c.args.values.now o.goes.extends o.goes.continues c.requires.values

pub rows::compute_goal-returns-in-Equated : goal.rows::compute_goal-returns-in-Equated
rows::compute_goal-returns-in-Equated g t c =
    let o = c.in_ok-opened.ensures in
    let r = c.evaluate_equated-response.ensures in
    let opened = rw c.in-Equated.ensures.0 at o.opened in
    let posed = rw c.in-Equated.ensures.0 at o.posed in
    let says = c.in-Equated.ensures.1 in
    let before = c.in-Equated.ensures.2 in
    let bound : IsCutIn (mode_of c.args.table.now.mode) ⊎ (c.args.goal.predicate ≡ c.in-Equated.opened.predicate) = elim (c.is_open_to_normalizing.ensures.open c.if-not-is_open_to_normalizing.false) [
      | inl x ↦ inl (rw (c.typing_mode.ensures, o.goes.mode) at x)
      | inr y ↦ inr y.0
    ] in
    let trees = trees_kept c.args.cx.now.nodes c.enter_forall.new.cx.nodes c.args.table.now.entries c.args.values.now o.grows.extends c.requires.values in
    record {
      grows = search rules;
      searches = search_then c.args.depth c.requires.search o.grows r.searches;
      found =
          IfOk-map c.evaluate_equated-response.result
          (λ x f. record {
            store = f.store;
            after = f.after;
            formed = f.formed;
            goes = Goes-trans o.goes f.goes;
            labels = labels_through c.requires.posed opened o.grows.extends f.labels;
            extends = f.extends;
            says = rw trees at f.says;
            holds = f.holds;
            no_more = f.no_more;
            sure = λ y s. normal_through c.requires.posed opened o.grows.extends (meaning (g.H.GoalHandler.handler s.base c.args.handler.now) s.variances) (mode_of c.args.table.now.mode) (assumed_in c.evaluate_equated-response.new.cx.nodes c.evaluate_equated-response.new.graph) c.in-Equated.equated posed says f.goes (let z = Goes-trans o.goes f.goes in z.continues) f.formed
                (rw o.goes.mode at (f.sure y (Since-later o.grows s)));
          }) r.found;
      told = λ s tells.
          let h = ruling_since (λ ts. g.H.GoalHandler.handler ts c.args.handler.now) s in
          IfOk-map c.evaluate_equated-response.result
          (λ x f. normal_told c.requires.posed opened o.grows.extends h c.args.table.now.mode bound c.args.values.now _ x.value trees (rw o.goes.mode at f))
          (r.told (Since-later o.grows s) (tell_grown h c.args.depth c.requires.search o.grows tells));
      refuted = λ s tells n.
          let h = ruling_since (λ ts. g.H.GoalHandler.handler ts c.args.handler.now) s in
          normal_stops c.requires.posed opened o.grows.extends h c.args.table.now.mode bound c.args.values.now (rw o.goes.mode at (r.refuted (Since-later o.grows s) (tell_grown h c.args.depth c.requires.search o.grows tells) n));
      decided = λ s n b d can.
          ⊎_elim
          (λ asked. absurd (before.not_asked asked))
          (λ w. absurd (⊎_elim (λ y. before.no_outlives _ (outlives_in y.says)) (λ v. before.not_own (⊎_elim (λ y. states_own y) (λ y. way_states_own y) v)) w))
          (is_asked_here (g.H.GoalHandler.handler s.base c.args.handler.now) (g.met.H.GoalHandler.lawful s.base c.args.handler.now s.formed s.is_ready) (mode_of c.args.table.now.mode) n b c.args.goal c.args.values.now d.0 d.1 c.requires.posed c.terms_are_formed.ensures o.grows.extends _ opened posed);
      facts = λ s tells f can.
          let settled = f.settled in
          let asked = fact_asked (g.H.GoalHandler.handler s.base c.args.handler.now) (mode_of c.args.table.now.mode) c.args.cx.now.nodes c.enter_forall.new.cx.nodes c.args.table.now c.enter_forall.new.table c.args.goal _ opened settled c.requires.posed posed o.grows.extends in
          absurd (before.not_asked asked);
    }

-- the ways are asked one after the other
pub equated::evaluate_equated-returns-then-not-matches : goal.equated::evaluate_equated-returns-then-not-matches
equated::evaluate_equated-returns-then-not-matches g t c =
    let r = c.evaluate_way-lesser.ensures in
    record {
      grows = search rules;
      searches = r.searches;
      found = r.found;
      told = λ s tells. IfOk-map c.evaluate_way-lesser.result (λ x f. lesser_told (ruling_since (λ ts. g.H.GoalHandler.handler ts c.args.handler.now) s) (mode_of c.args.table.now.mode) c.in-Some.types _ _ _ _ _ f) (r.told s tells);
      refuted = search rules;
    }

pub equated::evaluate_equated-evaluate_way-requires : goal.equated::evaluate_equated-evaluate_way-requires
equated::evaluate_equated-evaluate_way-requires g t c = λ κs k.
    let r = c.evaluate_way-lesser.ensures in
    let p = c.requires.posed in
    let up = r.grows.extends in
    let goes = Goes-extends p.table up in (
      omega (arith, c.decreases),
      (
        k,
        (
          rw r.same (IsPosed-later goes p),
          (
            equated_later up p.holds c.requires.equated,
            (
              tt,
              (
                rw r.same (rw (up.kept c.args.goal.predicate.node p.holds.predicate.within) c.requires.normal),
                (
                  g.met.H.GoalHandler.ready_kept _ _ _ c.requires.ready up,
                  (
                    rw r.same (args_later c.args.cx.now.nodes c.evaluate_way-lesser.new.cx.nodes c.args.table.now.entries c.args.table.now.entries c.args.values.now goes.extends goes.continues c.requires.values),
                    search_later c.args.depth c.args.depth (omega arith) c.requires.search r.searches,
                  ),
                ),
              ),
            ),
          ),
        ),
      ),
    )

pub equated::evaluate_equated-returns-in-Some : goal.equated::evaluate_equated-returns-in-Some
equated::evaluate_equated-returns-in-Some g t c =
    let first = c.evaluate_way-lesser.ensures in
    let r = c.evaluate_way.ensures in
    let p = c.requires.posed in
    let a = c.args.cx.now in
    let b = c.evaluate_way-lesser.new.cx in
    let w = c.args.table.now in
    let mode = mode_of w.mode in
    let up = first.grows.extends in
    let later = λ (s : Since (λ ts. g.H.GoalHandler.ready ts c.args.handler.now) c.args.cx.now) (tells : HeadsTell (ruling_since (λ ts. g.H.GoalHandler.handler ts c.args.handler.now) s) c.args.cx.now.nodes c.args.graph.now). heads_tell_later (ruling_since (λ ts. g.H.GoalHandler.handler ts c.args.handler.now) s) c.args.depth c.requires.search first.grows.extends first.searches tells in
    let env = up.kept c.args.goal.param_env.node p.holds.env.within in
    let predicate = up.kept c.args.goal.predicate.node p.holds.predicate.within in
    let none : c.evaluate_way-lesser.result ≡ Err EvalError.NoSolution = search rules in
    record {
      grows = search rules;
      searches = Searches-trans first.searches r.searches;
      found = IfOk-map c.evaluate_way.result (λ x f. found_earlier x.value up p.table p.holds c.requires.values (λ b u y s. rw (env, predicate) at (y (Since-later first.grows s))) (rw first.same at f)) r.found;
      told = λ s tells.
          let h = ruling_since (λ ts. g.H.GoalHandler.handler ts c.args.handler.now) s in
          IfOk-map c.evaluate_way.result
          (λ x f. one_told h mode (content_of a.nodes w.entries) (tree_at a.nodes c.args.goal.param_env.node) (tree_at a.nodes c.args.goal.predicate.node) (trees_of a.nodes c.args.values.now) (verdict_at c.evaluate_way.new.cx.nodes x.value)
          (λ y z is. lesser_no h mode c.in-Some.types (content_of a.nodes w.entries) (tree_at a.nodes c.args.goal.param_env.node) (tree_at a.nodes c.args.goal.predicate.node) (first.refuted s tells none))
          (way_told_earlier h mode None a.nodes b.nodes w c.args.goal c.args.values.now (verdict_at c.evaluate_way.new.cx.nodes x.value) up p.table p.holds c.requires.values (rw first.same at f)))
          (r.told (Since-later first.grows s) (later s tells));
      refuted = λ s tells n.
          let h = ruling_since (λ ts. g.H.GoalHandler.handler ts c.args.handler.now) s in
          record {
            one = way_refuted_earlier h mode None a.nodes b.nodes w c.args.goal up p.table p.holds (rw first.same at (r.refuted (Since-later first.grows s) (later s tells) n));
            lesser = λ y z is. lesser_no h mode c.in-Some.types (content_of a.nodes w.entries) (tree_at a.nodes c.args.goal.param_env.node) (tree_at a.nodes c.args.goal.predicate.node) (first.refuted s tells none);
          };
    }

pub equated::evaluate_equated-returns : goal.equated::evaluate_equated-returns
equated::evaluate_equated-returns g t c =
    let r = c.evaluate_way-2.ensures in
    let q = c.requires.equated in
    let no_types : c.args.equated.types ≡ None = search rules in
    let none : (a b : Tree) → IsLesserGoal (tree_at c.args.cx.now.nodes c.args.goal.predicate.node) a b → ⊥ = rw no_types at q.types in
    record {
      grows = search rules;
      searches = r.searches;
      found = r.found;
      told = λ s tells. IfOk-map c.evaluate_way-2.result (λ x f. one_told (ruling_since (λ ts. g.H.GoalHandler.handler ts c.args.handler.now) s) (mode_of c.args.table.now.mode) _ _ _ _ _ (λ a b is. absurd (none a b is)) f) (r.told s tells);
      refuted = λ s tells n. record { one = r.refuted s tells n; lesser = λ a b is. absurd (none a b is) };
    }

-- a goal answered by a way
pub equated::evaluate_way-returns-in_err-snapshot : goal.equated::evaluate_way-returns-in_err-snapshot
equated::evaluate_way-returns-in_err-snapshot g t c =
    way_failed c.from_residual.result (search rules) (search rules) (search rules) (search rules) (Searches-refl c.args.depth c.requires.search (record { extends = Extends-refl _; rest = KeepsRest-refl _ }))

pub equated::evaluate_way-returns-in-Err : goal.equated::evaluate_way-returns-in-Err
equated::evaluate_way-returns-in-Err g t c =
    let o = c.in_ok-snapshot.ensures in
    let r = c.in-Err.ensures in
    record {
      same = rolled_back o.saved r.runs.goes c.rollback_to.ensures.saved o.mode c.rollback_to.ensures.mode;
      grows = search rules;
      searches = r.searches;
      found = search rules;
      told = search rules;
      refuted = λ s tells n. rw (o.mode, o.entries) at (r.refuted s tells (search rules));
    }

pub equated::evaluate_way-boxed_response-response-requires-clause-values : goal.equated::evaluate_way-boxed_response-response-requires-clause-values
equated::evaluate_way-boxed_response-response-requires-clause-values g t c =
    let p = c.requires.posed in
    let o = c.in_ok-snapshot.ensures in
    let r = c.in-Ok.ensures in
    let went = went_in p.table o.entries o.saved o.mode r.runs.goes in
    args_later c.args.cx.now.nodes c.try_way.new.cx.nodes c.args.table.now.entries c.try_way.new.table.entries c.args.values.now went.extends went.continues c.requires.values

pub equated::evaluate_way-returns-in_err-response : goal.equated::evaluate_way-returns-in_err-response
equated::evaluate_way-returns-in_err-response g t c =
    let o = c.in_ok-snapshot.ensures in
    let r = c.in-Ok.ensures in
    way_failed c.from_residual-in_err-response.result (search rules) (search rules) (rolled_back o.saved r.runs.goes c.rollback_to-then-keeps_constraints.ensures.saved o.mode c.rollback_to-then-keeps_constraints.ensures.mode) (search rules) (search_grown c.args.depth c.requires.search r.searches c.boxed_response-response.ensures.grows)

pub equated::evaluate_way-returns-then-keeps_constraints : goal.equated::evaluate_way-returns-then-keeps_constraints
equated::evaluate_way-returns-then-keeps_constraints g t c =
    let p = c.requires.posed in
    let o = c.in_ok-snapshot.ensures in
    let r = c.in-Ok.ensures in
    let m = c.in_ok-response.ensures in
    let a = c.args.cx.now in
    let d = c.try_way.new.cx in
    let v = c.try_way.new.table in
    let went = went_in p.table o.entries o.saved o.mode r.runs.goes in
    let trees = trees_kept a.nodes d.nodes c.args.table.now.entries c.args.values.now went.extends c.requires.values in
    let now = search_later c.args.depth c.args.depth (omega arith) c.requires.search r.searches in
    let covers = covers_grown c.args.depth now m.grows in
    record {
      same = rolled_back o.saved r.runs.goes c.rollback_to-then-keeps_constraints.ensures.saved o.mode c.rollback_to-then-keeps_constraints.ensures.mode;
      grows = search rules;
      searches = search_grown c.args.depth c.requires.search r.searches m.grows;
      found = found_in c.in_ok-response.field-0.value c.in-Ok.certainty went c.terms_are_formed.ensures m.grows.extends (rw o.entries at r.labels) c.requires.values m.certainty m.says m.holds (record { no_hidden = m.nothing.0; no_goals = m.nothing.1 })
          (λ y s. normal_more covers (rw o.mode at (r.proved s (ap Ok y))));
      told = λ s tells.
          let run = rw (o.mode, o.entries) at (r.told s tells) in
          inl (record {
            normal = run.normal;
            left = run.left;
            met = run.met;
            sides = run.sides;
            found = content_of d.nodes v.entries;
            reaches = run.reaches;
            is_found = record { table = term_table c.terms_are_formed.ensures r.runs.goes.table; labels = rw o.entries at r.labels };
            says = says_found c.in-Ok.certainty (content_of a.nodes c.args.table.now.entries) (content_of d.nodes v.entries) (trees_of a.nodes c.args.values.now) (verdict_at c.boxed_response-response.new.cx.nodes c.in_ok-response.field-0.value) (ap is_yes m.certainty) (rw trees at m.says);
          });
      refuted = search rules;
    }

pub equated::evaluate_way-boxed_response-requires-clause-values : goal.equated::evaluate_way-boxed_response-requires-clause-values
equated::evaluate_way-boxed_response-requires-clause-values g t c =
    let p = c.requires.posed in
    let o = c.in_ok-snapshot.ensures in
    let r = c.in-Ok.ensures in
    let back = rolled_back o.saved r.runs.goes c.rollback_to-2.ensures.saved o.mode c.rollback_to-2.ensures.mode in
    let goes = goes-back p.table r.runs.goes.extends back in
    args_later c.args.cx.now.nodes c.try_way.new.cx.nodes c.args.table.now.entries c.rollback_to-2.new.self.entries c.args.values.now goes.extends goes.continues c.requires.values

pub equated::evaluate_way-returns-in_err-response-2 : goal.equated::evaluate_way-returns-in_err-response-2
equated::evaluate_way-returns-in_err-response-2 g t c =
    let o = c.in_ok-snapshot.ensures in
    let r = c.in-Ok.ensures in
    way_failed c.from_residual-in_err-response-2.result (search rules) (search rules) (rolled_back o.saved r.runs.goes c.rollback_to-2.ensures.saved o.mode c.rollback_to-2.ensures.mode) (search rules) (search_grown c.args.depth c.requires.search r.searches c.boxed_response.ensures.grows)

pub equated::evaluate_way-returns : goal.equated::evaluate_way-returns
equated::evaluate_way-returns g t c =
    let p = c.requires.posed in
    let o = c.in_ok-snapshot.ensures in
    let r = c.in-Ok.ensures in
    let m = c.in_ok-response-2.ensures in
    let a = c.args.cx.now in
    let d = c.try_way.new.cx in
    let v = c.try_way.new.table in
    let back = rolled_back o.saved r.runs.goes c.rollback_to-2.ensures.saved o.mode c.rollback_to-2.ensures.mode in
    let trees = trees_kept a.nodes d.nodes c.args.table.now.entries c.args.values.now r.runs.goes.extends c.requires.values in
    let still = content_of-extended r.runs.goes.extends p.table.now in
    let unsure = not_kept (sym c.keeps_constraints.ensures ∙ c.if-keeps_constraints.false) in
    record {
      same = back;
      grows = search rules;
      searches = search_grown c.args.depth c.requires.search r.searches m.grows;
      found = found_still c.in_ok-response-2.response.value c.in-Ok.certainty p.table r.runs.goes.extends c.terms_are_formed.ensures m.grows.extends c.requires.values m.certainty unsure (rw back at m.says) m.holds (record { no_hidden = m.nothing.0; no_goals = m.nothing.1 });
      told = λ s tells.
          let run = rw (o.mode, o.entries) at (r.told s tells) in
          inl (record {
            normal = run.normal;
            left = run.left;
            met = run.met;
            sides = run.sides;
            found = content_of d.nodes v.entries;
            reaches = run.reaches;
            is_found = record { table = term_table c.terms_are_formed.ensures r.runs.goes.table; labels = rw o.entries at r.labels };
            says = says_before c.in-Ok.certainty (content_of a.nodes c.args.table.now.entries) (content_of d.nodes v.entries) (trees_of a.nodes c.args.values.now) (verdict_at c.boxed_response.new.cx.nodes c.in_ok-response-2.response.value) (ap is_yes m.certainty) unsure (plain_of c.in-Ok.certainty _ _ _ (rw (back, still, trees) at m.says) unsure);
          });
      refuted = search rules;
    }

-- the goals that are left of it are asked
pub equated::try_way-returns-in_err-goals : goal.equated::try_way-returns-in_err-goals
equated::try_way-returns-in_err-goals g t c =
    record {
      runs = c.way_goals.ensures.runs;
      searches = Searches-refl c.args.depth c.requires.search (ran c.way_goals.ensures.runs);
      labels = search rules;
      proved = search rules;
      told = search rules;
      refuted = search rules;
    }

pub equated::try_way-try_evaluate_goals-requires : goal.equated::try_way-try_evaluate_goals-requires
equated::try_way-try_evaluate_goals-requires g t c = λ κs k.
    let r = c.in_ok-goals.ensures in
    let begins = r.begins in (
      omega (arith, c.decreases),
      (
        k,
        (
          r.runs.goes.table,
          (
            begins.posed,
            (
              g.met.H.GoalHandler.ready_kept _ _ _ c.requires.ready r.runs.goes.extends,
              search_grows c.args.depth c.args.depth (omega arith) c.requires.search (ran r.runs),
            ),
          ),
        ),
      ),
    )

pub equated::try_way-returns-in_err-certainty : goal.equated::try_way-returns-in_err-certainty
equated::try_way-returns-in_err-certainty g t c =
    let r = c.in_ok-goals.ensures in
    let begins = r.begins in
    let e = c.try_evaluate_goals.ensures in
    let b = c.way_goals.new.cx in
    let u = c.way_goals.new.table in
    let gs = c.in_ok-goals.goals.items in
    record {
      runs = Runs-trans r.runs e.runs;
      searches = search_then c.args.depth c.requires.search (ran r.runs) e.searches;
      labels = search rules;
      proved = search rules;
      told = search rules;
      refuted = λ s tells n.
          let h = ruling_since (λ ts. g.H.GoalHandler.handler ts c.args.handler.now) s in
          let refused : c.try_evaluate_goals.result ≡ Err EvalError.NoSolution = search rules in
          let no = stopped_refused u c.args.graph.now Kinds.Misc (e.refuted (Since-later (ran r.runs) s) (tell_grown h c.args.depth c.requires.search (ran r.runs) tells) refused) in
          record { normal = c.requires.normal; left = goals_at b.nodes gs; met = content_of b.nodes u.entries; sides = begins.sides; refused = rw r.runs.goes.mode at no };
    }

pub equated::try_way-returns : goal.equated::try_way-returns
equated::try_way-returns g t c =
    let r = c.in_ok-goals.ensures in
    let begins = r.begins in
    let e = c.in_ok-certainty.ensures in
    let b = c.way_goals.new.cx in
    let u = c.way_goals.new.table in
    let d = c.try_evaluate_goals.new.cx in
    let v = c.try_evaluate_goals.new.table in
    let gs = c.in_ok-goals.goals.items in
    record {
      runs = Runs-trans r.runs e.runs;
      searches = search_then c.args.depth c.requires.search (ran r.runs) e.searches;
      labels = begins.labels e.labels;
      proved = λ s y.
          let none = e.sure (search rules) in
          let settled = rw r.runs.goes.mode at (e.proved (Since-later (ran r.runs) s)) in
          left_normal c.args.goal gs (meaning (g.H.GoalHandler.handler s.base c.args.handler.now) s.variances) (mode_of c.args.table.now.mode) (assumed_in d.nodes c.try_evaluate_goals.new.graph) d.nodes v c.requires.posed r.runs.goes begins.goals c.terms_are_formed.ensures e.runs.goes
          (all_relating d.nodes v gs begins.goals (proved_all _ gs none settled));
      told = λ s tells.
          let h = ruling_since (λ ts. g.H.GoalHandler.handler ts c.args.handler.now) s in
          record {
            normal = c.requires.normal;
            left = goals_at b.nodes gs;
            met = content_of b.nodes u.entries;
            sides = begins.sides;
            reaches = rw r.runs.goes.mode at (e.told (Since-later (ran r.runs) s) (tell_grown h c.args.depth c.requires.search (ran r.runs) tells));
          };
      refuted = search rules;
    }
