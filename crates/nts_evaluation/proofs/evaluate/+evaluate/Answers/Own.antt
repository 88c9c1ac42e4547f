-- Goals of the engine's own kinds.
use Rattle.nts_meaning.specs.Meant.{ruling_since}
use Rattle.std.proofs.Common.{inl, inr, ⊎_elim, arith, rules, refl, ap, subst}
use Rattle.nts_model.specs.Derivations.Handlers.{meaning}
use Rattle.nts_model.specs.Derivations.Rules.{statement_of}
use Rattle.nts_model.specs.Searching.Stacks.{HoldsCandidateFrom}
use Rattle.nts_theory.proofs.Refutation.Affirming.{way_no_handlers}
use Rattle.nts_model.specs.Derivations.Rules.{statement_of, IsHandlers}
use Rattle.nts_theory.specs.Affirming.{SaysAffirmed, IsDenied, HasOwnWay}
use Rattle.nts_theory.specs.Telling.{IsPlainResponse, IsResponseOf}
use Rattle.nts_store.proofs.Growing.{Extends-trans}
use Rattle.nts_terms.specs.Modes.{mode_of}
use Rattle.nts_unify.specs.Reading.{content_of}
use Rattle.nts_unify.specs.Lawful.{content_of-extended}
use Rattle.nts_candidates.specs.Offered.{candidate_of}
use Rattle.nts_candidates.proofs.Results.{IfOk-map}
use Rattle.nts_canonical.specs.Forms.{trees_of}
use Rattle.nts_response.specs.Forms.{response_at}
use Rattle.nts_meaning.specs.Answering.{is_yes}
use Rattle.nts_meaning.specs.Searching.{assumed_in}
use Rattle.nts_meaning.proofs.AnsweredQueries.{args_later}
use Rattle.nts_meaning.proofs.AskedGoals.{trees_kept}
use Rattle.nts_meaning.proofs.Evaluating.{Goes-trans, Goes-extends, Since-later, IsPosed-later}
use Rattle.nts_meaning.proofs.Rounds.{grown, search_then}
use Rattle.nts_meaning.proofs.Searching.{Searches-refl, search_grows, tell_grown}
use Rattle.nts_trying.specs.Owning.{IsJudgedSo}
use Rattle.nts_trying.specs.declared.own.Judged.TheVariants as judged
use Rattle.nts_trying.proofs.Labels.{only_same}
use Rattle.nts_trying.proofs.Opened.{labels_through}
use Rattle.nts_trying.proofs.Owning.{own_is_no_trait}
use Rattle.nts_trying.proofs.Outcomes.{found_earlier}
use Rattle.nts_trying.proofs.Probed.{found_in, doubtful}
use Rattle.nts_evaluation.proofs.DecidedGoals.{is_asked_here, region_not_own, own_settled}
use Rattle.nts_evaluation.proofs.Deciding.{decides_grown, same_search}
use Rattle.nts_evaluation.proofs.FactTrials.{fact_asked}
use Rattle.nts_evaluation.proofs.Failing.{own_failed}
use Rattle.nts_evaluation.proofs.OwnGoals.{posed_plain, judged_before, settled_yes, settled_no, settled_unknown, settled_way, own_holds, own_says, own_none}
use Rattle.nts_evaluation.proofs.Serving.{held_plain}
use Rattle.nts_evaluation.proofs.evaluate.+evaluate.Goals as goal

pub rows::compute_goal-evaluate_own-response-requires : goal.rows::compute_goal-evaluate_own-response-requires
rows::compute_goal-evaluate_own-response-requires g t c = λ κs k.
    let o = c.in_ok-opened.ensures in (
      omega (arith, c.decreases),
      (
        k,
        (
          rw c.in-Own.ensures.0 at o.posed,
          (
            c.in-Own.ensures.1,
            (
              g.met.H.GoalHandler.ready_kept _ _ _ c.requires.ready o.grows.extends,
              (
                args_later c.args.cx.now.nodes c.enter_forall.new.cx.nodes c.args.table.now.entries c.enter_forall.new.table.entries c.args.values.now o.goes.extends o.goes.continues c.requires.values,
                search_grows c.args.depth c.args.depth (omega arith) c.requires.search o.grows,
              ),
            ),
          ),
        ),
      ),
    )

pub rows::compute_goal-returns-in-Own : goal.rows::compute_goal-returns-in-Own
rows::compute_goal-returns-in-Own g t c =
    let o = c.in_ok-opened.ensures in
    let r = c.evaluate_own-response.ensures in
    let opened = rw c.in-Own.ensures.0 at o.opened in
    let posed = rw c.in-Own.ensures.0 at o.posed in
    let says = c.in-Own.ensures.1 in
    let trees = trees_kept c.args.cx.now.nodes c.enter_forall.new.cx.nodes c.args.table.now.entries c.args.values.now o.grows.extends c.requires.values in
    record {
      grows = search rules;
      searches = search_then c.args.depth c.requires.search o.grows r.searches;
      found =
          IfOk-map c.evaluate_own-response.result
          (λ x f. record {
            store = f.store;
            after = f.after;
            formed = f.formed;
            goes = Goes-trans o.goes f.goes;
            labels = labels_through c.requires.posed opened o.grows.extends f.labels;
            extends = f.extends;
            says = rw trees at f.says;
            holds = f.holds;
            no_more = f.no_more;
            sure = λ y s. own_holds c.requires.posed opened o.grows.extends posed c.in-Own.own says (g.H.GoalHandler.handler s.base c.args.handler.now) s.variances (mode_of c.args.table.now.mode) (assumed_in c.evaluate_own-response.new.cx.nodes c.evaluate_own-response.new.graph) f.goes (let z = Goes-trans o.goes f.goes in z.continues) f.formed
                (g.met.H.GoalHandler.lawful s.base c.args.handler.now s.formed s.is_ready) (rw o.goes.mode at (f.sure y (Since-later o.grows s)));
          }) r.found;
      told = λ s tells.
          let h = ruling_since (λ ts. g.H.GoalHandler.handler ts c.args.handler.now) s in
          IfOk-map c.evaluate_own-response.result (λ x f. own_says c.requires.posed opened o.grows.extends posed c.in-Own.own says c.terms_are_formed.ensures h c.args.table.now.mode c.args.values.now c.evaluate_own-response.new.cx.nodes x.value trees (rw o.goes.mode at f))
          (r.told (Since-later o.grows s) (tell_grown h c.args.depth c.requires.search o.grows tells));
      refuted = λ s tells n.
          let h = ruling_since (λ ts. g.H.GoalHandler.handler ts c.args.handler.now) s in
          own_none c.requires.posed opened o.grows.extends posed c.in-Own.own says c.terms_are_formed.ensures h c.args.table.now.mode c.args.values.now (rw o.goes.mode at (r.refuted (Since-later o.grows s) (tell_grown h c.args.depth c.requires.search o.grows tells) n));
      decided = λ s n b d can.
          ⊎_elim
          (λ asked. absurd (own_is_no_trait _ _ c.in-Own.own says (let z = asked.trait_goal in z.statement)))
          (λ w. ⊎_elim
          (λ y. absurd (region_not_own says y.says))
          (λ y. r.decided (Since-later o.grows s) n b (rw o.goes.mode (own_settled {mode = c.args.table.now.mode} y)) (decides_grown c.requires.search o.grows can)) w)
          (is_asked_here (g.H.GoalHandler.handler s.base c.args.handler.now) (g.met.H.GoalHandler.lawful s.base c.args.handler.now s.formed s.is_ready) (mode_of c.args.table.now.mode) n b c.args.goal c.args.values.now d.0 d.1 c.requires.posed c.terms_are_formed.ensures o.grows.extends _ opened posed);
      facts = λ s tells f can.
          let settled = f.settled in
          let asked = fact_asked (g.H.GoalHandler.handler s.base c.args.handler.now) (mode_of c.args.table.now.mode) c.args.cx.now.nodes c.enter_forall.new.cx.nodes c.args.table.now c.enter_forall.new.table c.args.goal _ opened settled c.requires.posed posed o.grows.extends in
          absurd (own_is_no_trait _ _ c.in-Own.own says (let z = asked.trait_goal in z.statement));
    }

pub rows::evaluate_own-judge-requires-clause-plain : goal.rows::evaluate_own-judge-requires-clause-plain
rows::evaluate_own-judge-requires-clause-plain g t c = posed_plain c.args.cx.now.nodes c.args.table.now c.args.goal c.requires.posed

pub rows::evaluate_own-returns-in_err-judged : goal.rows::evaluate_own-returns-in_err-judged
rows::evaluate_own-returns-in_err-judged g t c =
    own_failed c.from_residual.result (search rules) (search rules) (search rules) (Searches-refl c.args.depth c.requires.search c.judge.ensures.grows)

pub rows::evaluate_own-boxed_response-requires-clause-table : goal.rows::evaluate_own-boxed_response-requires-clause-table
rows::evaluate_own-boxed_response-requires-clause-table g t c = (let goes = Goes-extends c.requires.posed.table c.in_ok-judged.ensures.grows.extends in goes.table)

pub rows::evaluate_own-boxed_response-requires-clause-values : goal.rows::evaluate_own-boxed_response-requires-clause-values
rows::evaluate_own-boxed_response-requires-clause-values g t c =
    let goes = Goes-extends c.requires.posed.table c.in_ok-judged.ensures.grows.extends in
    args_later c.args.cx.now.nodes c.judge.new.cx.nodes c.args.table.now.entries c.args.table.now.entries c.args.values.now goes.extends goes.continues c.requires.values

pub rows::evaluate_own-returns-in_err-response-in-Yes : goal.rows::evaluate_own-returns-in_err-response-in-Yes
rows::evaluate_own-returns-in_err-response-in-Yes g t c =
    own_failed c.from_residual-in_err-response-in-Yes.result (search rules) (search rules) (search rules) (Searches-refl c.args.depth c.requires.search (grown c.in_ok-judged.ensures.grows c.boxed_response.ensures.grows))

pub rows::evaluate_own-boxed_response-requires-in-Unknown-clause-table : goal.rows::evaluate_own-boxed_response-requires-in-Unknown-clause-table
rows::evaluate_own-boxed_response-requires-in-Unknown-clause-table g t c = (let goes = Goes-extends c.requires.posed.table c.in_ok-judged.ensures.grows.extends in goes.table)

pub rows::evaluate_own-boxed_response-requires-in-Unknown-clause-values : goal.rows::evaluate_own-boxed_response-requires-in-Unknown-clause-values
rows::evaluate_own-boxed_response-requires-in-Unknown-clause-values g t c =
    let goes = Goes-extends c.requires.posed.table c.in_ok-judged.ensures.grows.extends in
    args_later c.args.cx.now.nodes c.judge.new.cx.nodes c.args.table.now.entries c.args.table.now.entries c.args.values.now goes.extends goes.continues c.requires.values

pub rows::evaluate_own-returns-in_err-response-in-Unknown : goal.rows::evaluate_own-returns-in_err-response-in-Unknown
rows::evaluate_own-returns-in_err-response-in-Unknown g t c =
    own_failed c.from_residual-in_err-response-in-Unknown.result (search rules) (search rules) (search rules) (Searches-refl c.args.depth c.requires.search (grown c.in_ok-judged.ensures.grows c.boxed_response-in-Unknown.ensures.grows))

pub rows::evaluate_own-probe_candidate-response-requires : goal.rows::evaluate_own-probe_candidate-response-requires
rows::evaluate_own-probe_candidate-response-requires g t c = λ κs k.
    let j = c.in_ok-judged.ensures in
    let way : IsJudgedSo (g.H.GoalHandler.handler c.judge.new.cx.nodes c.args.handler.now) c.judge.new.cx.nodes c.args.goal (judged.Way c.in-Way.way) = subst (IsJudgedSo (g.H.GoalHandler.handler c.judge.new.cx.nodes c.args.handler.now) c.judge.new.cx.nodes c.args.goal) c.in-Way.is j.judged in
    let goes = Goes-extends c.requires.posed.table j.grows.extends in (
      omega (arith, c.decreases),
      (
        k,
        (
          IsPosed-later goes c.requires.posed,
          (
            g.met.H.GoalHandler.ready_kept _ _ _ c.requires.ready j.grows.extends,
            (
              rw c.deref.ensures way.1,
              (
                args_later c.args.cx.now.nodes c.judge.new.cx.nodes c.args.table.now.entries c.args.table.now.entries c.args.values.now goes.extends goes.continues c.requires.values,
                search_grows c.args.depth c.args.depth (omega arith) c.requires.search j.grows,
              ),
            ),
          ),
        ),
      ),
    )

pub rows::evaluate_own-returns-in-No : goal.rows::evaluate_own-returns-in-No
rows::evaluate_own-returns-in-No g t c =
    let j = c.in_ok-judged.ensures in
    let known : IsJudgedSo (g.H.GoalHandler.handler c.judge.new.cx.nodes c.args.handler.now) c.judge.new.cx.nodes c.args.goal judged.No = subst (IsJudgedSo (g.H.GoalHandler.handler c.judge.new.cx.nodes c.args.handler.now) c.judge.new.cx.nodes c.args.goal) c.in-No.is j.judged in
    record {
      grows = j.grows;
      searches = Searches-refl c.args.depth c.requires.search j.grows;
      found = tt;
      told = λ s tells. tt;
      refuted = λ s tells n.
          let same = g.met.H.GoalHandler.handler_kept s.base c.judge.new.cx.nodes c.args.handler.now s.is_ready (Extends-trans s.extends j.grows.extends) in
          inl (judged_before (λ z e p. IsDenied z (statement_of p)) same j.grows.extends c.requires.posed.holds known);
      decided = λ s n b d can.
          let same = g.met.H.GoalHandler.handler_kept s.base c.judge.new.cx.nodes c.args.handler.now s.is_ready (Extends-trans s.extends j.grows.extends) in
          record { answer = settled_no same j.grows.extends c.requires.posed.holds _ j.exact b c.in-No.is d; search = same_search _ };
    }

pub rows::evaluate_own-returns-in_ok-response-in-Yes : goal.rows::evaluate_own-returns-in_ok-response-in-Yes
rows::evaluate_own-returns-in_ok-response-in-Yes g t c =
    let j = c.in_ok-judged.ensures in
    let known : IsJudgedSo (g.H.GoalHandler.handler c.judge.new.cx.nodes c.args.handler.now) c.judge.new.cx.nodes c.args.goal judged.Yes = subst (IsJudgedSo (g.H.GoalHandler.handler c.judge.new.cx.nodes c.args.handler.now) c.judge.new.cx.nodes c.args.goal) c.in-Yes.is j.judged in
    let r = c.in_ok-response-in-Yes.ensures in
    let x = c.in_ok-response-in-Yes.response.value in
    let up = j.grows.extends in
    let holds = c.requires.posed.holds in
    let here = content_of-extended up c.requires.posed.table.now in
    let trees = trees_kept c.args.cx.now.nodes c.judge.new.cx.nodes c.args.table.now.entries c.args.values.now up c.requires.values in
    let says : IsResponseOf (content_of c.judge.new.cx.nodes c.args.table.now.entries) (trees_of c.judge.new.cx.nodes c.args.values.now) (response_at c.boxed_response.new.cx.nodes x) = r.says in
    record {
      grows = search rules;
      searches = Searches-refl c.args.depth c.requires.search (grown j.grows r.grows);
      found = found_in x _ (Goes-extends c.requires.posed.table up) c.terms_are_formed.ensures r.grows.extends (only_same _ up c.requires.posed.table refl) c.requires.values r.certainty r.says r.holds (record { no_hidden = r.nothing.0; no_goals = r.nothing.1 })
          (λ y s. inl (let same = g.met.H.GoalHandler.handler_kept s.base c.judge.new.cx.nodes c.args.handler.now s.is_ready (Extends-trans s.extends up) in judged_before (λ z e p. SaysAffirmed z e p) same up holds known));
      told = λ s tells. inl (
        (let same = g.met.H.GoalHandler.handler_kept s.base c.judge.new.cx.nodes c.args.handler.now s.is_ready (Extends-trans s.extends up) in judged_before (λ z e p. SaysAffirmed z e p) same up holds known),
        ap is_yes r.certainty,
        subst (λ z. IsResponseOf z (trees_of c.args.cx.now.nodes c.args.values.now) (response_at c.boxed_response.new.cx.nodes x)) here (subst (λ z. IsResponseOf (content_of c.judge.new.cx.nodes c.args.table.now.entries) z (response_at c.boxed_response.new.cx.nodes x)) trees says),
      );
      refuted = search rules;
      decided = λ s n b d can.
          let same = g.met.H.GoalHandler.handler_kept s.base c.judge.new.cx.nodes c.args.handler.now s.is_ready (Extends-trans s.extends j.grows.extends) in
          record { answer = (settled_yes same up holds _ j.exact b c.in-Yes.is d, r.certainty); search = same_search _ };
    }

pub rows::evaluate_own-returns-in_ok-response-in-Unknown : goal.rows::evaluate_own-returns-in_ok-response-in-Unknown
rows::evaluate_own-returns-in_ok-response-in-Unknown g t c =
    let j = c.in_ok-judged.ensures in
    let r = c.in_ok-response-in-Unknown.ensures in
    let x = c.in_ok-response-in-Unknown.response.value in
    let up = j.grows.extends in
    let here = content_of-extended up c.requires.posed.table.now in
    let trees = trees_kept c.args.cx.now.nodes c.judge.new.cx.nodes c.args.table.now.entries c.args.values.now up c.requires.values in
    let plain : IsPlainResponse (content_of c.judge.new.cx.nodes c.args.table.now.entries) (trees_of c.judge.new.cx.nodes c.args.values.now) (response_at c.boxed_response-in-Unknown.new.cx.nodes x) = r.says in
    record {
      grows = search rules;
      searches = Searches-refl c.args.depth c.requires.search (grown j.grows r.grows);
      found = found_in x _ (Goes-extends c.requires.posed.table up) c.terms_are_formed.ensures r.grows.extends (only_same _ up c.requires.posed.table refl) c.requires.values r.certainty r.says r.holds (record { no_hidden = r.nothing.0; no_goals = r.nothing.1 }) (λ y. absurd (doubtful _ y));
      told = λ s tells. inr (inr (ap is_yes r.certainty, subst (λ z. IsPlainResponse z (trees_of c.args.cx.now.nodes c.args.values.now) (response_at c.boxed_response-in-Unknown.new.cx.nodes x)) here (subst (λ z. IsPlainResponse (content_of c.judge.new.cx.nodes c.args.table.now.entries) z (response_at c.boxed_response-in-Unknown.new.cx.nodes x)) trees plain)));
      refuted = search rules;
      decided = λ s n b d can.
          let same = g.met.H.GoalHandler.handler_kept s.base c.judge.new.cx.nodes c.args.handler.now s.is_ready (Extends-trans s.extends j.grows.extends) in
          absurd (settled_unknown same up c.requires.posed.holds _ j.exact b c.in-Unknown.is d);
    }

pub rows::evaluate_own-returns-in-Way : goal.rows::evaluate_own-returns-in-Way
rows::evaluate_own-returns-in-Way g t c =
    let j = c.in_ok-judged.ensures in
    let known : IsJudgedSo (g.H.GoalHandler.handler c.judge.new.cx.nodes c.args.handler.now) c.judge.new.cx.nodes c.args.goal (judged.Way c.in-Way.way) = subst (IsJudgedSo (g.H.GoalHandler.handler c.judge.new.cx.nodes c.args.handler.now) c.judge.new.cx.nodes c.args.goal) c.in-Way.is j.judged in
    let r = c.probe_candidate-response.ensures in
    let up = j.grows.extends in
    let holds = c.requires.posed.holds in
    let way = c.in-Way.way.value in
    let x = candidate_of c.judge.new.cx.nodes way in
    let here = content_of-extended up c.requires.posed.table.now in
    let trees = trees_kept c.args.cx.now.nodes c.judge.new.cx.nodes c.args.table.now.entries c.args.values.now up c.requires.values in
    let environment = up.kept c.args.goal.param_env.node holds.env.within in
    let predicate = up.kept c.args.goal.predicate.node holds.predicate.within in
    record {
      grows = search rules;
      searches = search_then c.args.depth c.requires.search j.grows r.searches;
      found =
          IfOk-map c.probe_candidate-response.result
          (λ y f. found_earlier y.value up c.requires.posed.table holds c.requires.values
          (λ b u run s.
          let same = g.met.H.GoalHandler.handler_kept s.base c.judge.new.cx.nodes c.args.handler.now s.is_ready (Extends-trans s.extends up) in
          inr (
            x,
            judged_before (λ z e p. HasOwnWay z e p x) same up holds known.0,
            subst (λ z. HoldsCandidateFrom (meaning (g.H.GoalHandler.handler s.base c.args.handler.now) s.variances) (mode_of c.args.table.now.mode) (assumed_in c.probe_candidate-response.new.cx.nodes c.probe_candidate-response.new.graph) (content_of b u.entries) z x) predicate (let ran = run (Since-later j.grows s) in held_plain known.2 (λ i. (let y = known.0 in way_no_handlers _ _ y.statement x y.way (subst (λ z. IsHandlers (statement_of z)) y.binds_nothing i))) ran.holds),
          )) f)
          (rw c.deref.ensures at r.found);
      told = λ s tells.
          let h = ruling_since (λ ts. g.H.GoalHandler.handler ts c.args.handler.now) s in
          let same = g.met.H.GoalHandler.handler_kept s.base c.judge.new.cx.nodes c.args.handler.now s.is_ready (Extends-trans s.extends up) in
          IfOk-map c.probe_candidate-response.result
          (λ y f. inr (inl (x, judged_before (λ z e p. HasOwnWay z e p x) same up holds known.0, known.2, rw (here, trees, environment, predicate) at f)))
          (rw c.deref.ensures at (r.told (Since-later j.grows s) (tell_grown h c.args.depth c.requires.search j.grows tells)));
      refuted = λ s tells n.
          let h = ruling_since (λ ts. g.H.GoalHandler.handler ts c.args.handler.now) s in
          let same = g.met.H.GoalHandler.handler_kept s.base c.judge.new.cx.nodes c.args.handler.now s.is_ready (Extends-trans s.extends up) in
          inr (x, judged_before (λ z e p. HasOwnWay z e p x) same up holds known.0, known.2, rw (here, c.deref.ensures, environment, predicate) at (r.refuted (Since-later j.grows s) (tell_grown h c.args.depth c.requires.search j.grows tells) n));
      decided = λ s n b d can.
          let same = g.met.H.GoalHandler.handler_kept s.base c.judge.new.cx.nodes c.args.handler.now s.is_ready (Extends-trans s.extends j.grows.extends) in
          r.decided (Since-later j.grows s) n b (rw c.deref.ensures (settled_way same up holds _ j.exact b c.in-Way.way c.in-Way.is known.0 known.2 here d)) (decides_grown c.requires.search j.grows can);
    }
