-- Goals that one type is a subtype of another.
use Rattle.std.proofs.Common.{◌≡◌, ◌⊎◌, Err, Ok, inl, inr, ⊎_elim, arith, rules, true, [], ◌∷◌, ap, sym, ◌∙◌, subst}
use Rattle.std.specs.Result.{is_err}
use Rattle.std.proofs.lemmas.Result.{IfOk-from_err}
use Rattle.nts_model.specs.declared.labels.Variance.TheVariants as variance
use Rattle.nts_model.specs.Derivations.Related.{subtype_goal}
use Rattle.nts_model.specs.Derivations.Handlers.{meaning}
use Rattle.nts_model.specs.Derivations.Rules.{relating}
use Rattle.nts_store.specs.Growth.{tree_at}
use Rattle.nts_store.specs.declared.fault.EvalError.TheVariants as EvalError
use Rattle.nts_store.proofs.Growing.{Extends-refl}
use Rattle.nts_terms.specs.Modes.{mode_of}
use Rattle.nts_terms.proofs.Moved.{KeepsRest-refl}
use Rattle.nts_unify.specs.Reading.{content_of}
use Rattle.nts_unify.specs.Lawful.{content_of-extended}
use Rattle.nts_candidates.proofs.Results.{IfOk-map}
use Rattle.nts_canonical.specs.Forms.{trees_of}
use Rattle.nts_response.specs.Forms.{response_at}
use Rattle.nts_theory.specs.Telling.{IsPlainResponse}
use Rattle.nts_certainty.specs.Certainties.{ambiguous}
use Rattle.nts_search.specs.declared.kinds.CurrentGoalKind.TheVariants as Kinds
use Rattle.nts_theory.specs.Telling.Reaches.{asks_nothing}
use Rattle.nts_meaning.specs.Answering.{is_yes, verdict_at}
use Rattle.nts_meaning.specs.Meant.{ruling_since}
use Rattle.nts_meaning.specs.Searching.{assumed_in}
use Rattle.nts_meaning.proofs.AnsweredQueries.{args_later}
use Rattle.nts_meaning.proofs.AskedGoals.{trees_kept}
use Rattle.nts_meaning.specs.Evaluation.{IsPosed, asked_terms, goals_at}
use Rattle.nts_meaning.proofs.Evaluating.{Goes-trans, Runs-trans, Since-later, goes-back, rolled_back}
use Rattle.nts_meaning.proofs.Rounds.{grown, ran, search_then}
use Rattle.nts_meaning.proofs.Running.{term_table}
use Rattle.nts_meaning.proofs.Searching.{Searches-refl, search_grown, search_grows, search_later, covers_grown, tell_grown}
use Rattle.nts_trying.proofs.Opened.{labels_through, subtype_through, subtype_told, subtype_refuted}
use Rattle.nts_trying.proofs.Probed.{found_in, found_still, went_in, plain_of, not_kept, says_found, says_before, doubtful}
use Rattle.nts_trying.specs.Subtyping.{AreLeftOfTypes, AreUntouched, AreJoinedTypes, AreRelatedTypes}
use Rattle.nts_trying.proofs.Ran.{proved_all}
use Rattle.nts_trying.proofs.Stepping.{stopped_refused}
use Rattle.nts_evaluation.proofs.DecidedGoals.{is_asked_here, outlives_in, states_own, way_states_own}
use Rattle.nts_evaluation.proofs.FactTrials.{fact_asked}
use Rattle.nts_evaluation.proofs.Failing.{subtype_failed}
use Rattle.nts_evaluation.proofs.SubtypesLeft.{joined_content, joined_leaves, joined_brings, joined_these, untouched_content, undone_brings, left_posed, left_leaves, left_brings, left_held, subtypes_more}
use Rattle.nts_evaluation.proofs.evaluate.+evaluate.Goals as goal

pub rows::compute_goal-evaluate_subtype-response-requires : goal.rows::compute_goal-evaluate_subtype-response-requires
rows::compute_goal-evaluate_subtype-response-requires g t c = λ κs k.
    let o = c.in_ok-opened.ensures in (
      omega (arith, c.decreases),
      (
        k,
        (
          rw c.in-Subtype.ensures.0 at o.posed,
          (
            c.in-Subtype.ensures.1,
            (
              g.met.H.GoalHandler.ready_kept _ _ _ c.requires.ready o.grows.extends,
              (
                args_later c.args.cx.now.nodes c.enter_forall.new.cx.nodes c.args.table.now.entries c.enter_forall.new.table.entries c.args.values.now o.goes.extends o.goes.continues c.requires.values,
                search_grows c.args.depth c.args.depth (omega arith) c.requires.search o.grows,
              ),
            ),
          ),
        ),
      ),
    )

pub rows::compute_goal-returns-in-Subtype : goal.rows::compute_goal-returns-in-Subtype
rows::compute_goal-returns-in-Subtype g t c =
    let o = c.in_ok-opened.ensures in
    let r = c.evaluate_subtype-response.ensures in
    let opened = rw c.in-Subtype.ensures.0 at o.opened in
    let posed = rw c.in-Subtype.ensures.0 at o.posed in
    let says = c.in-Subtype.ensures.1 in
    let before = c.in-Subtype.ensures.2 in
    let trees = trees_kept c.args.cx.now.nodes c.enter_forall.new.cx.nodes c.args.table.now.entries c.args.values.now o.grows.extends c.requires.values in
    record {
      grows = search rules;
      searches = search_then c.args.depth c.requires.search o.grows r.searches;
      found =
          IfOk-map c.evaluate_subtype-response.result
          (λ x f. record {
            store = f.store;
            after = f.after;
            formed = f.formed;
            goes = Goes-trans o.goes f.goes;
            labels = labels_through c.requires.posed opened o.grows.extends f.labels;
            extends = f.extends;
            says = rw trees at f.says;
            holds = f.holds;
            no_more = f.no_more;
            sure = λ y s. subtype_through c.requires.posed opened o.grows.extends (meaning (g.H.GoalHandler.handler s.base c.args.handler.now) s.variances) (mode_of c.args.table.now.mode) (assumed_in c.evaluate_subtype-response.new.cx.nodes c.evaluate_subtype-response.new.graph) c.in-Subtype.types posed says f.goes (let z = Goes-trans o.goes f.goes in z.continues) f.formed
                (rw o.goes.mode at (f.sure y (Since-later o.grows s)));
          }) r.found;
      told = λ s tells.
          let h = ruling_since (λ ts. g.H.GoalHandler.handler ts c.args.handler.now) s in
          IfOk-map c.evaluate_subtype-response.result
          (λ x f. subtype_told c.requires.posed opened o.grows.extends h c.args.table.now.mode c.args.values.now _ x.value trees (rw o.goes.mode at f))
          (r.told (Since-later o.grows s) (tell_grown h c.args.depth c.requires.search o.grows tells));
      refuted = λ s tells n.
          let h = ruling_since (λ ts. g.H.GoalHandler.handler ts c.args.handler.now) s in
          subtype_refuted c.requires.posed opened o.grows.extends h c.args.table.now.mode c.args.values.now (rw o.goes.mode at (r.refuted (Since-later o.grows s) (tell_grown h c.args.depth c.requires.search o.grows tells) n));
      decided = λ s n b d can.
          ⊎_elim
          (λ asked. absurd (before.not_asked asked))
          (λ w. absurd (⊎_elim (λ y. before.no_outlives _ (outlives_in y.says)) (λ v. before.not_own (⊎_elim (λ y. states_own y) (λ y. way_states_own y) v)) w))
          (is_asked_here (g.H.GoalHandler.handler s.base c.args.handler.now) (g.met.H.GoalHandler.lawful s.base c.args.handler.now s.formed s.is_ready) (mode_of c.args.table.now.mode) n b c.args.goal c.args.values.now d.0 d.1 c.requires.posed c.terms_are_formed.ensures o.grows.extends _ opened posed);
      facts = λ s tells f can.
          let settled = f.settled in
          let asked = fact_asked (g.H.GoalHandler.handler s.base c.args.handler.now) (mode_of c.args.table.now.mode) c.args.cx.now.nodes c.enter_forall.new.cx.nodes c.args.table.now c.enter_forall.new.table c.args.goal _ opened settled c.requires.posed posed o.grows.extends in
          absurd (before.not_asked asked);
    }

pub rows::evaluate_subtype-returns-in_err-snapshot : goal.rows::evaluate_subtype-returns-in_err-snapshot
rows::evaluate_subtype-returns-in_err-snapshot g t c =
    subtype_failed c.from_residual.result (search rules) (search rules) (search rules) (Searches-refl c.args.depth c.requires.search (record { extends = Extends-refl _; rest = KeepsRest-refl _ }))

pub rows::evaluate_subtype-returns-in_err-left : goal.rows::evaluate_subtype-returns-in_err-left
rows::evaluate_subtype-returns-in_err-left g t c =
    let o = c.in_ok-snapshot.ensures in
    let r = c.relate_types.ensures in
    let fails : is_err c.from_residual-in_err-left.result ≡ true = search rules in
    record {
      grows = search rules;
      searches = Searches-refl c.args.depth c.requires.search (ran r.runs);
      found = IfOk-from_err c.from_residual-in_err-left.result _ fails;
      told = λ s tells. IfOk-from_err c.from_residual-in_err-left.result _ fails;
      refuted = λ s tells n.
          let no : c.relate_types.result ≡ Err EvalError.NoSolution = first_of (cc, search rules) in
          let x = rw (o.mode, o.entries, ← s.declared) at (r.no no) in
          (x.0, inl x.1);
      joined = λ n m v outside. IfOk-from_err c.from_residual-in_err-left.result _ fails;
    }

pub rows::evaluate_subtype-boxed_response-requires-clause-values : goal.rows::evaluate_subtype-boxed_response-requires-clause-values
rows::evaluate_subtype-boxed_response-requires-clause-values g t c =
    let p = c.requires.posed in
    let o = c.in_ok-snapshot.ensures in
    let r = c.in_ok-left.ensures in
    let went = went_in p.table o.entries o.saved o.mode r.runs.goes in
    args_later c.args.cx.now.nodes c.relate_types.new.cx.nodes c.args.table.now.entries c.relate_types.new.table.entries c.args.values.now went.extends went.continues c.requires.values

pub rows::evaluate_subtype-returns-in_err-joined : goal.rows::evaluate_subtype-returns-in_err-joined
rows::evaluate_subtype-returns-in_err-joined g t c =
    let r = c.in_ok-left.ensures in
    subtype_failed c.from_residual-in_err-joined.result (search rules) (search rules) (search rules) (Searches-refl c.args.depth c.requires.search (grown (ran r.runs) c.boxed_response.ensures.grows))

pub rows::evaluate_subtype-returns-in_default : goal.rows::evaluate_subtype-returns-in_default
rows::evaluate_subtype-returns-in_default g t c =
    let p = c.requires.posed in
    let o = c.in_ok-snapshot.ensures in
    let r = c.in_ok-left.ensures in
    let m = c.in_ok-joined.ensures in
    let a = c.args.cx.now in
    let b = c.relate_types.new.cx in
    let snap = c.start_snapshot.new.self in
    let u = c.relate_types.new.table in
    let types = c.args.types in
    let env = tree_at a.nodes c.args.goal.param_env.node in
    let pred = tree_at a.nodes c.args.goal.predicate.node in
    let table = o.table a.nodes p.table in
    let up = r.runs.goes.extends in
    let went = went_in p.table o.entries o.saved o.mode r.runs.goes in
    let trees = trees_kept a.nodes b.nodes c.args.table.now.entries c.args.values.now went.extends c.requires.values in
    let undone : AreUntouched snap u ⊎ AreJoinedTypes a b snap u types = subst (AreLeftOfTypes a b snap u c.args.goal types) c.in_default.is r.left in
    let reply = response_at c.boxed_response.new.cx.nodes c.in_ok-joined.joined.value in
    let plain = plain_of ambiguous (content_of b.nodes u.entries) (trees_of a.nodes c.args.values.now) reply (rw trees at m.says) (doubtful _) in
    record {
      grows = search rules;
      searches = Searches-refl c.args.depth c.requires.search (grown (ran r.runs) m.grows);
      found = found_in c.in_ok-joined.joined.value ambiguous went c.terms_are_formed.ensures m.grows.extends (rw o.entries at (undone_brings a b snap u types (asked_terms a.nodes c.args.goal) table up undone)) c.requires.values m.certainty m.says m.holds (record { no_hidden = m.nothing.0; no_goals = m.nothing.1 }) (λ y. absurd (doubtful _ y));
      told = λ s tells.
          let h = ruling_since (λ ts. g.H.GoalHandler.handler ts c.args.handler.now) s in
          ⊎_elim
          (λ x. inr (ap is_yes m.certainty, rw o.entries at (subst (λ z. IsPlainResponse z (trees_of a.nodes c.args.values.now) reply) (untouched_content a b snap u table up x.same) plain)))
          (λ x. inl (record {
            found = content_of b.nodes u.entries;
            reached = record {
              outside = rw o.mode at x.outside;
              left = relating env (subtype_goal true variance.Covariant (tree_at a.nodes types.sub.node) (tree_at a.nodes types.sup.node)) ∷ [];
              met = content_of b.nodes u.entries;
              leaves = rw o.entries at (joined_leaves a b snap u types table up x.joins h.variances c.args.goal c.requires.types env);
              reaches = asks_nothing;
            };
            is_found = record { table = term_table c.terms_are_formed.ensures r.runs.goes.table; labels = rw o.entries at (joined_brings a b snap u types table up x.joins (env ∷ pred ∷ [])) };
            says = says_found ambiguous (content_of a.nodes c.args.table.now.entries) (content_of b.nodes u.entries) (trees_of a.nodes c.args.values.now) (verdict_at c.boxed_response.new.cx.nodes c.in_ok-joined.joined.value) (ap is_yes m.certainty) (rw trees at m.says);
          })) undone;
      refuted = search rules;
      joined = λ n k v outside.
          ⊎_elim
          (λ x. absurd (outside (rw o.mode at x.inside)))
          (λ x. record { after = u.entries; joins = rw o.entries at (joined_these a b snap u types table up x.joins n k (rw o.entries v)); doubt = m.certainty; says = subst (λ z. IsPlainResponse z (trees_of a.nodes c.args.values.now) reply) (joined_content a b snap u types table up x.joins) plain }) undone;
    }

pub rows::evaluate_subtype-try_evaluate_goals-requires : goal.rows::evaluate_subtype-try_evaluate_goals-requires
rows::evaluate_subtype-try_evaluate_goals-requires g t c = λ κs k.
    let p = c.requires.posed in
    let o = c.in_ok-snapshot.ensures in
    let r = c.in_ok-left.ensures in
    let a = c.args.cx.now in
    let b = c.relate_types.new.cx in
    let snap = c.start_snapshot.new.self in
    let u = c.relate_types.new.table in
    let posed : IsPosed a.nodes snap c.args.goal = record { table = o.table a.nodes p.table; holds = p.holds; knows = rw o.entries p.knows } in
    let left : AreRelatedTypes a b snap u c.args.goal c.args.types c.in-Some.goals.items = subst (AreLeftOfTypes a b snap u c.args.goal c.args.types) c.in-Some.is r.left in (
      omega (arith, c.decreases),
      (
        k,
        (
          r.runs.goes.table,
          (
            left_posed a b snap u c.args.goal c.args.types c.in-Some.goals.items posed c.requires.types left.relates r.runs,
            (
              g.met.H.GoalHandler.ready_kept _ _ _ c.requires.ready r.runs.goes.extends,
              search_grows c.args.depth c.args.depth (omega arith) c.requires.search (ran r.runs),
            ),
          ),
        ),
      ),
    )

pub rows::evaluate_subtype-returns-in_err-certainty : goal.rows::evaluate_subtype-returns-in_err-certainty
rows::evaluate_subtype-returns-in_err-certainty g t c =
    let p = c.requires.posed in
    let o = c.in_ok-snapshot.ensures in
    let r = c.in_ok-left.ensures in
    let e = c.try_evaluate_goals.ensures in
    let a = c.args.cx.now in
    let b = c.relate_types.new.cx in
    let snap = c.start_snapshot.new.self in
    let u = c.relate_types.new.table in
    let gs = c.in-Some.goals.items in
    let posed : IsPosed a.nodes snap c.args.goal = record { table = o.table a.nodes p.table; holds = p.holds; knows = rw o.entries p.knows } in
    let left : AreRelatedTypes a b snap u c.args.goal c.args.types gs = subst (AreLeftOfTypes a b snap u c.args.goal c.args.types) c.in-Some.is r.left in
    let fails : is_err c.from_residual-in_err-certainty.result ≡ true = search rules in
    record {
      grows = search rules;
      searches = search_then c.args.depth c.requires.search (ran r.runs) e.searches;
      found = IfOk-from_err c.from_residual-in_err-certainty.result _ fails;
      told = λ s tells. IfOk-from_err c.from_residual-in_err-certainty.result _ fails;
      refuted = λ s tells n.
          let h = ruling_since (λ ts. g.H.GoalHandler.handler ts c.args.handler.now) s in
          let refused : c.try_evaluate_goals.result ≡ Err EvalError.NoSolution = search rules in
          let no = stopped_refused u c.args.graph.now Kinds.Misc (e.refuted (Since-later (ran r.runs) s) (tell_grown h c.args.depth c.requires.search (ran r.runs) tells) refused) in (
            rw o.mode at left.outside,
            inr (record {
              left = goals_at b.nodes gs;
              met = content_of b.nodes u.entries;
              leaves = rw (o.entries, ← s.declared) at (left_leaves a b snap u c.args.goal c.args.types gs posed c.requires.types left.relates r.runs);
              refused = rw (r.runs.goes.mode, o.mode) at no;
            }),
          );
      joined = λ n k v outside. IfOk-from_err c.from_residual-in_err-certainty.result _ fails;
    }

pub rows::evaluate_subtype-boxed_response-requires-then-keeps_constraints-clause-values : goal.rows::evaluate_subtype-boxed_response-requires-then-keeps_constraints-clause-values
rows::evaluate_subtype-boxed_response-requires-then-keeps_constraints-clause-values g t c =
    let p = c.requires.posed in
    let o = c.in_ok-snapshot.ensures in
    let all = Runs-trans c.in_ok-left.ensures.runs c.in_ok-certainty.ensures.runs in
    let went = went_in p.table o.entries o.saved o.mode all.goes in
    args_later c.args.cx.now.nodes c.try_evaluate_goals.new.cx.nodes c.args.table.now.entries c.try_evaluate_goals.new.table.entries c.args.values.now went.extends went.continues c.requires.values

pub rows::evaluate_subtype-returns-in_err-response : goal.rows::evaluate_subtype-returns-in_err-response
rows::evaluate_subtype-returns-in_err-response g t c =
    let r = c.in_ok-left.ensures in
    let e = c.in_ok-certainty.ensures in
    subtype_failed c.from_residual-in_err-response.result (search rules) (search rules) (search rules) (search_grown c.args.depth c.requires.search (search_then c.args.depth c.requires.search (ran r.runs) e.searches) c.boxed_response-then-keeps_constraints.ensures.grows)

pub rows::evaluate_subtype-returns-then-keeps_constraints : goal.rows::evaluate_subtype-returns-then-keeps_constraints
rows::evaluate_subtype-returns-then-keeps_constraints g t c =
    let p = c.requires.posed in
    let o = c.in_ok-snapshot.ensures in
    let r = c.in_ok-left.ensures in
    let e = c.in_ok-certainty.ensures in
    let m = c.in_ok-response.ensures in
    let a = c.args.cx.now in
    let b = c.relate_types.new.cx in
    let d = c.try_evaluate_goals.new.cx in
    let snap = c.start_snapshot.new.self in
    let u = c.relate_types.new.table in
    let v = c.try_evaluate_goals.new.table in
    let gs = c.in-Some.goals.items in
    let goal = c.args.goal in
    let types = c.args.types in
    let posed : IsPosed a.nodes snap goal = record { table = o.table a.nodes p.table; holds = p.holds; knows = rw o.entries p.knows } in
    let left : AreRelatedTypes a b snap u goal types gs = subst (AreLeftOfTypes a b snap u goal types) c.in-Some.is r.left in
    let all = Runs-trans r.runs e.runs in
    let went = went_in p.table o.entries o.saved o.mode all.goes in
    let trees = trees_kept a.nodes d.nodes c.args.table.now.entries c.args.values.now went.extends c.requires.values in
    let brings = left_brings a b snap u goal types gs posed c.requires.types left.relates r.runs e.labels in
    let searches = search_then c.args.depth c.requires.search (ran r.runs) e.searches in
    let covers = covers_grown c.args.depth (search_later c.args.depth c.args.depth (omega arith) c.requires.search searches) m.grows in
    record {
      grows = search rules;
      searches = search_grown c.args.depth c.requires.search searches m.grows;
      found = found_in c.in_ok-response.response.value c.in_ok-certainty.certainty went c.terms_are_formed-2.ensures m.grows.extends (rw o.entries at brings) c.requires.values m.certainty m.says m.holds (record { no_hidden = m.nothing.0; no_goals = m.nothing.1 })
          (λ y s.
          let none = e.sure (ap Ok y) in
          let settled = rw (r.runs.goes.mode, o.mode) at (e.proved (Since-later (ran r.runs) s)) in
          subtypes_more covers (rw o.mode at (left_held a b snap u goal types gs posed c.requires.types left.relates r.runs (meaning (g.H.GoalHandler.handler s.base c.args.handler.now) s.variances) (mode_of snap.mode) (assumed_in d.nodes c.try_evaluate_goals.new.graph) s.declared c.terms_are_formed.ensures d v c.terms_are_formed-2.ensures e.runs.goes (rw o.mode (proved_all _ gs none settled)))));
      told = λ s tells.
          let h = ruling_since (λ ts. g.H.GoalHandler.handler ts c.args.handler.now) s in
          inl (record {
            found = content_of d.nodes v.entries;
            reached = record {
              outside = rw o.mode at left.outside;
              left = goals_at b.nodes gs;
              met = content_of b.nodes u.entries;
              leaves = rw (o.entries, ← s.declared) at (left_leaves a b snap u goal types gs posed c.requires.types left.relates r.runs);
              reaches = rw (r.runs.goes.mode, o.mode) at (e.told (Since-later (ran r.runs) s) (tell_grown h c.args.depth c.requires.search (ran r.runs) tells));
            };
            is_found = record { table = term_table c.terms_are_formed-2.ensures e.runs.goes.table; labels = rw o.entries at brings };
            says = says_found c.in_ok-certainty.certainty (content_of a.nodes c.args.table.now.entries) (content_of d.nodes v.entries) (trees_of a.nodes c.args.values.now) (verdict_at c.boxed_response-then-keeps_constraints.new.cx.nodes c.in_ok-response.response.value) (ap is_yes m.certainty) (rw trees at m.says);
          });
      refuted = search rules;
      joined = λ n k these outside. absurd (left.apart n k (rw o.entries these));
    }

pub rows::evaluate_subtype-boxed_response-requires-2-clause-values : goal.rows::evaluate_subtype-boxed_response-requires-2-clause-values
rows::evaluate_subtype-boxed_response-requires-2-clause-values g t c =
    let p = c.requires.posed in
    let o = c.in_ok-snapshot.ensures in
    let all = Runs-trans c.in_ok-left.ensures.runs c.in_ok-certainty.ensures.runs in
    let back = rolled_back o.saved all.goes c.rollback_to.ensures.saved o.mode c.rollback_to.ensures.mode in
    let goes = goes-back p.table all.goes.extends back in
    args_later c.args.cx.now.nodes c.try_evaluate_goals.new.cx.nodes c.args.table.now.entries c.rollback_to.new.self.entries c.args.values.now goes.extends goes.continues c.requires.values

pub rows::evaluate_subtype-returns-in_err-response-2 : goal.rows::evaluate_subtype-returns-in_err-response-2
rows::evaluate_subtype-returns-in_err-response-2 g t c =
    let r = c.in_ok-left.ensures in
    let e = c.in_ok-certainty.ensures in
    subtype_failed c.from_residual-in_err-response-2.result (search rules) (search rules) (search rules) (search_grown c.args.depth c.requires.search (search_then c.args.depth c.requires.search (ran r.runs) e.searches) c.boxed_response-2.ensures.grows)

pub rows::evaluate_subtype-returns : goal.rows::evaluate_subtype-returns
rows::evaluate_subtype-returns g t c =
    let p = c.requires.posed in
    let o = c.in_ok-snapshot.ensures in
    let r = c.in_ok-left.ensures in
    let e = c.in_ok-certainty.ensures in
    let m = c.in_ok-response-2.ensures in
    let a = c.args.cx.now in
    let b = c.relate_types.new.cx in
    let d = c.try_evaluate_goals.new.cx in
    let snap = c.start_snapshot.new.self in
    let u = c.relate_types.new.table in
    let v = c.try_evaluate_goals.new.table in
    let gs = c.in-Some.goals.items in
    let goal = c.args.goal in
    let types = c.args.types in
    let posed : IsPosed a.nodes snap goal = record { table = o.table a.nodes p.table; holds = p.holds; knows = rw o.entries p.knows } in
    let left : AreRelatedTypes a b snap u goal types gs = subst (AreLeftOfTypes a b snap u goal types) c.in-Some.is r.left in
    let all = Runs-trans r.runs e.runs in
    let back = rolled_back o.saved all.goes c.rollback_to.ensures.saved o.mode c.rollback_to.ensures.mode in
    let trees = trees_kept a.nodes d.nodes c.args.table.now.entries c.args.values.now all.goes.extends c.requires.values in
    let still = content_of-extended all.goes.extends p.table.now in
    let brings = left_brings a b snap u goal types gs posed c.requires.types left.relates r.runs e.labels in
    let unsure = not_kept (sym c.keeps_constraints.ensures ∙ c.if-keeps_constraints.false) in
    record {
      grows = search rules;
      searches = search_grown c.args.depth c.requires.search (search_then c.args.depth c.requires.search (ran r.runs) e.searches) m.grows;
      found = found_still c.in_ok-response-2.response.value c.in_ok-certainty.certainty p.table all.goes.extends c.terms_are_formed-2.ensures m.grows.extends c.requires.values m.certainty unsure (rw back at m.says) m.holds (record { no_hidden = m.nothing.0; no_goals = m.nothing.1 });
      told = λ s tells.
          let h = ruling_since (λ ts. g.H.GoalHandler.handler ts c.args.handler.now) s in
          inl (record {
            found = content_of d.nodes v.entries;
            reached = record {
              outside = rw o.mode at left.outside;
              left = goals_at b.nodes gs;
              met = content_of b.nodes u.entries;
              leaves = rw (o.entries, ← s.declared) at (left_leaves a b snap u goal types gs posed c.requires.types left.relates r.runs);
              reaches = rw (r.runs.goes.mode, o.mode) at (e.told (Since-later (ran r.runs) s) (tell_grown h c.args.depth c.requires.search (ran r.runs) tells));
            };
            is_found = record { table = term_table c.terms_are_formed-2.ensures e.runs.goes.table; labels = rw o.entries at brings };
            says = says_before c.in_ok-certainty.certainty (content_of a.nodes c.args.table.now.entries) (content_of d.nodes v.entries) (trees_of a.nodes c.args.values.now) (verdict_at c.boxed_response-2.new.cx.nodes c.in_ok-response-2.response.value) (ap is_yes m.certainty) unsure (plain_of c.in_ok-certainty.certainty _ _ _ (rw (back, still, trees) at m.says) unsure);
          });
      refuted = search rules;
      joined = λ n k these outside. absurd (left.apart n k (rw o.entries these));
    }
