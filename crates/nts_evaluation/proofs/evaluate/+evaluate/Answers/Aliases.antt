-- Goals about an alias.
use Rattle.std.proofs.Common.{◌≡◌, inl, inr, ⊎_elim, arith, rules, refl, ap, ◌∙◌, subst}
use Rattle.nts_store.specs.Growth.{tree_at}
use Rattle.nts_store.proofs.Growing.{Extends-trans}
use Rattle.nts_terms.specs.Modes.{mode_of}
use Rattle.nts_unify.specs.Reading.{content_of}
use Rattle.nts_unify.specs.Lawful.{content_of-extended}
use Rattle.nts_candidates.specs.Offered.{candidates_of}
use Rattle.nts_candidates.proofs.Results.{IfOk-map}
use Rattle.nts_delegate.specs.Relevant.{LeavesOut}
use Rattle.nts_meaning.specs.Meant.{ruling_since}
use Rattle.nts_meaning.specs.Searching.{assumed_in}
use Rattle.nts_meaning.proofs.AnsweredQueries.{args_later}
use Rattle.nts_meaning.proofs.AskedGoals.{trees_kept}
use Rattle.nts_meaning.proofs.Evaluating.{Goes-trans, Goes-extends, IsPosed-later, Since-later, offers-kept}
use Rattle.nts_meaning.proofs.Rounds.{search_then}
use Rattle.nts_meaning.proofs.Searching.{Searches-refl, search_grows, tell_grown}
use Rattle.nts_trying.specs.Aliasing.{IsAliasTold, IsAliasRefuted}
use Rattle.nts_trying.proofs.AliasGoals.{alias_asked}
use Rattle.nts_trying.proofs.Labels.{only_back}
use Rattle.nts_trying.proofs.LeftOut.{all_outcomes, kept_offered}
use Rattle.nts_trying.proofs.Opened.{labels_through, proved_through, told_offered, alias_told, alias_refuted}
use Rattle.nts_evaluation.proofs.Failing.{alias_failed}
use Rattle.nts_evaluation.proofs.DecidedGoals.{is_asked_here, outlives_in, states_own, way_states_own}
use Rattle.nts_evaluation.proofs.FactTrials.{fact_asked}
use Rattle.nts_evaluation.proofs.evaluate.+evaluate.Goals as goal

pub rows::compute_goal-evaluate_alias-response-requires : goal.rows::compute_goal-evaluate_alias-response-requires
rows::compute_goal-evaluate_alias-response-requires g t c = λ κs k.
    let o = c.in_ok-opened.ensures in
    let posed = rw c.in-Alias.ensures.0 at o.posed in (
      omega (arith, c.decreases),
      (
        k,
        (
          posed,
          (
            alias_asked c.terms_are_formed.ensures posed c.in-Alias.ensures.1,
            (
              g.met.H.GoalHandler.ready_kept _ _ _ c.requires.ready o.grows.extends,
              (
                args_later c.args.cx.now.nodes c.enter_forall.new.cx.nodes c.args.table.now.entries c.enter_forall.new.table.entries c.args.values.now o.goes.extends o.goes.continues c.requires.values,
                search_grows c.args.depth c.args.depth (omega arith) c.requires.search o.grows,
              ),
            ),
          ),
        ),
      ),
    )

pub rows::compute_goal-returns-in-Alias : goal.rows::compute_goal-returns-in-Alias
rows::compute_goal-returns-in-Alias g t c =
    let o = c.in_ok-opened.ensures in
    let r = c.evaluate_alias-response.ensures in
    let opened = rw c.in-Alias.ensures.0 at o.opened in
    let posed = rw c.in-Alias.ensures.0 at o.posed in
    let says = c.in-Alias.ensures.1 in
    let before = c.in-Alias.ensures.2 in
    let trees = trees_kept c.args.cx.now.nodes c.enter_forall.new.cx.nodes c.args.table.now.entries c.args.values.now o.grows.extends c.requires.values in
    record {
      grows = search rules;
      searches = search_then c.args.depth c.requires.search o.grows r.searches;
      found =
          IfOk-map c.evaluate_alias-response.result
          (λ x f. record {
            store = f.store;
            after = f.after;
            formed = f.formed;
            goes = Goes-trans o.goes f.goes;
            labels = labels_through c.requires.posed opened o.grows.extends f.labels;
            extends = f.extends;
            says = rw trees at f.says;
            holds = f.holds;
            no_more = f.no_more;
            sure = λ y s.
                let h = g.H.GoalHandler.handler s.base c.args.handler.now in
                let law = g.met.H.GoalHandler.lawful s.base c.args.handler.now s.formed s.is_ready in
                let later = (Goes-trans o.goes f.goes).continues in
                proved_through c.requires.posed opened o.grows.extends h s.variances (mode_of c.args.table.now.mode) (assumed_in c.evaluate_alias-response.new.cx.nodes c.evaluate_alias-response.new.graph) posed (alias_asked c.terms_are_formed.ensures posed says) f.goes later f.formed law (rw o.goes.mode at (f.sure y (Since-later o.grows s)));
          }) r.found;
      told = λ s tells.
          let h = ruling_since (λ ts. g.H.GoalHandler.handler ts c.args.handler.now) s in
          IfOk-map c.evaluate_alias-response.result
          (λ x f. alias_told c.requires.posed opened o.grows.extends c.terms_are_formed.ensures posed says h c.args.table.now.mode c.args.values.now _ x.value trees (subst (λ m. IsAliasTold h m c.enter_forall.new.cx.nodes c.enter_forall.new.table c.in-Alias.opened c.args.values.now c.evaluate_alias-response.new.cx.nodes x.value) o.goes.mode f))
          (r.told (Since-later o.grows s) (tell_grown h c.args.depth c.requires.search o.grows tells));
      refuted = λ s tells n.
          let h = ruling_since (λ ts. g.H.GoalHandler.handler ts c.args.handler.now) s in
          alias_refuted c.requires.posed opened o.grows.extends c.terms_are_formed.ensures posed says h c.args.table.now.mode c.args.values.now trees (subst (λ m. IsAliasRefuted h m c.enter_forall.new.cx.nodes c.enter_forall.new.table c.in-Alias.opened c.args.values.now) o.goes.mode (r.refuted (Since-later o.grows s) (tell_grown h c.args.depth c.requires.search o.grows tells) n));
      decided = λ s n b d can.
          ⊎_elim
          (λ asked. absurd (before.not_asked asked))
          (λ w. absurd (⊎_elim (λ y. before.no_outlives _ (outlives_in y.says)) (λ v. before.not_own (⊎_elim (λ y. states_own y) (λ y. way_states_own y) v)) w))
          (is_asked_here (g.H.GoalHandler.handler s.base c.args.handler.now) (g.met.H.GoalHandler.lawful s.base c.args.handler.now s.formed s.is_ready) (mode_of c.args.table.now.mode) n b c.args.goal c.args.values.now d.0 d.1 c.requires.posed c.terms_are_formed.ensures o.grows.extends _ opened posed);
      facts = λ s tells f can.
          let settled = f.settled in
          let asked = fact_asked (g.H.GoalHandler.handler s.base c.args.handler.now) (mode_of c.args.table.now.mode) c.args.cx.now.nodes c.enter_forall.new.cx.nodes c.args.table.now c.enter_forall.new.table c.args.goal _ opened settled c.requires.posed posed o.grows.extends in
          absurd (before.not_asked asked);
    }

pub rows::evaluate_alias-evaluate_candidates-requires : goal.rows::evaluate_alias-evaluate_candidates-requires
rows::evaluate_alias-evaluate_candidates-requires g t c = λ κs k.
    let e = c.in_ok-candidates.ensures in
    let goes = Goes-extends c.requires.posed.table e.grows.extends in (
      omega (arith, c.decreases),
      (
        k,
        (
          IsPosed-later goes c.requires.posed,
          (
            g.met.H.GoalHandler.ready_kept _ _ _ c.requires.ready e.grows.extends,
            (
              rw c.deref.ensures.value e.candidates,
              (
                args_later c.args.cx.now.nodes c.relevant_candidates.new.cx.nodes c.args.table.now.entries c.args.table.now.entries c.args.values.now goes.extends goes.continues c.requires.values,
                search_grows c.args.depth c.args.depth (omega arith) c.requires.search e.grows,
              ),
            ),
          ),
        ),
      ),
    )

pub rows::evaluate_alias-returns : goal.rows::evaluate_alias-returns
rows::evaluate_alias-returns g t c =
    let e = c.in_ok-candidates.ensures in
    let r = c.evaluate_candidates.ensures in
    let posed = c.requires.posed in
    let table = posed.table in
    let goes = Goes-extends table e.grows.extends in
    let mode = c.args.table.now.mode in
    let here : content_of c.relevant_candidates.new.cx.nodes c.args.table.now.entries ≡ content_of c.args.cx.now.nodes c.args.table.now.entries = content_of-extended e.grows.extends table.now in
    let trees = trees_kept c.args.cx.now.nodes c.relevant_candidates.new.cx.nodes c.args.table.now.entries c.args.values.now e.grows.extends c.requires.values in
    record {
      grows = search rules;
      searches = search_then c.args.depth c.requires.search e.grows r.searches;
      found =
          IfOk-map c.evaluate_candidates.result
          (λ x f. record {
            store = f.store;
            after = f.after;
            formed = f.formed;
            goes = Goes-trans goes f.goes;
            labels = only_back {g = c.args.goal} e.grows.extends table posed.holds f.labels;
            extends = f.extends;
            says = rw trees at f.says;
            holds = f.holds;
            no_more = f.no_more;
            sure = λ y s.
                let h = g.H.GoalHandler.handler s.base c.args.handler.now in
                let same = g.met.H.GoalHandler.handler_kept s.base c.relevant_candidates.new.cx.nodes c.args.handler.now s.is_ready (Extends-trans s.extends e.grows.extends) in
                let offered = subst (λ os. LeavesOut os (candidates_of c.relevant_candidates.new.cx.nodes c.in_ok-candidates.candidates.items)) (ap (λ m. (g.H.GoalHandler.handler c.relevant_candidates.new.cx.nodes c.args.handler.now).offers (mode_of m) (tree_at c.relevant_candidates.new.cx.nodes c.args.goal.param_env.node) (tree_at c.relevant_candidates.new.cx.nodes c.args.goal.predicate.node)) c.typing_mode.ensures ∙ same.offers _ _ _) e.offered in
                f.sure y (Since-later e.grows s) (kept_offered _ c.args.goal _ h mode offered);
          })
          (rw c.deref.ensures.value at r.found);
      told = λ s tells.
          let h = ruling_since (λ ts. g.H.GoalHandler.handler ts c.args.handler.now) s in
          let same = g.met.H.GoalHandler.handler_kept s.base c.relevant_candidates.new.cx.nodes c.args.handler.now s.is_ready (Extends-trans s.extends e.grows.extends) in
          let offered = subst (λ os. LeavesOut os (candidates_of c.relevant_candidates.new.cx.nodes c.in_ok-candidates.candidates.items)) (ap (λ m. (g.H.GoalHandler.handler c.relevant_candidates.new.cx.nodes c.args.handler.now).offers (mode_of m) (tree_at c.relevant_candidates.new.cx.nodes c.args.goal.param_env.node) (tree_at c.relevant_candidates.new.cx.nodes c.args.goal.predicate.node)) c.typing_mode.ensures ∙ same.offers _ _ _) e.offered in
          let run = rw c.deref.ensures.value at (r.told (Since-later e.grows s) (tell_grown h c.args.depth c.requires.search e.grows tells)) in
          IfOk-map c.evaluate_candidates.result
          (λ x f. ⊎_elim
          (λ v. inl (record { verdicts = v.0; outcomes = v.1; stands = v.2 }))
          (λ v. inr v)
          (told_offered h mode c.args.table.now c.args.goal c.args.values.now c.in_ok-candidates.candidates.items c.evaluate_candidates.new.cx.nodes x.value e.grows.extends table posed.holds trees offered f)) run;
      refuted = λ s tells n.
          let h = ruling_since (λ ts. g.H.GoalHandler.handler ts c.args.handler.now) s in
          let same = g.met.H.GoalHandler.handler_kept s.base c.relevant_candidates.new.cx.nodes c.args.handler.now s.is_ready (Extends-trans s.extends e.grows.extends) in
          let offered = subst (λ os. LeavesOut os (candidates_of c.relevant_candidates.new.cx.nodes c.in_ok-candidates.candidates.items)) (ap (λ m. (g.H.GoalHandler.handler c.relevant_candidates.new.cx.nodes c.args.handler.now).offers (mode_of m) (tree_at c.relevant_candidates.new.cx.nodes c.args.goal.param_env.node) (tree_at c.relevant_candidates.new.cx.nodes c.args.goal.predicate.node)) c.typing_mode.ensures ∙ same.offers _ _ _) e.offered in
          let run = rw c.deref.ensures.value at (r.refuted (Since-later e.grows s) (tell_grown h c.args.depth c.requires.search e.grows tells) n) in
          let environment = e.grows.extends.kept c.args.goal.param_env.node posed.holds.env.within in
          let predicate = e.grows.extends.kept c.args.goal.predicate.node posed.holds.predicate.within in
          let kept = offers-kept (g.H.GoalHandler.handler s.base c.args.handler.now) (mode_of mode) e.grows.extends posed.holds in
          record {
            outcomes = rw (here, trees, kept, environment, predicate) at (all_outcomes offered _ _ refl run);
          };
    }

pub rows::evaluate_alias-returns-in_err-candidates : goal.rows::evaluate_alias-returns-in_err-candidates
rows::evaluate_alias-returns-in_err-candidates g t c =
    alias_failed c.from_residual.result (search rules) (search rules) (search rules) (Searches-refl c.args.depth c.requires.search c.relevant_candidates.ensures.grows)
