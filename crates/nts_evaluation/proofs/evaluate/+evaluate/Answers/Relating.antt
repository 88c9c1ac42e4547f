-- Candidates of whose equations some relate aliases.
use Rattle.std.proofs.Common.{◌≡◌, Err, Ok, inl, inr, arith, rules, true, ap, sym, ◌∙◌, subst}
use Rattle.std.specs.Result.{is_err}
use Rattle.std.proofs.lemmas.Result.{IfOk-from_err}
use Rattle.nts_model.specs.Derivations.Handlers.{meaning}
use Rattle.nts_theory.proofs.Refutation.PosedGoals.{posed_in_as_it_is}
use Rattle.nts_theory.specs.Telling.Fails.{is_unmet, is_unrelated, is_refused}
use Rattle.nts_store.specs.declared.fault.EvalError.TheVariants as EvalError
use Rattle.nts_terms.specs.Modes.{mode_of}
use Rattle.nts_unify.specs.Reading.{content_of}
use Rattle.nts_candidates.specs.Offered.{certainty_of, candidate_of}
use Rattle.nts_theory.specs.RelatingCandidates.{goals_with}
use Rattle.nts_meaning.specs.Evaluation.{goals_at}
use Rattle.nts_meaning.specs.Meant.{ruling_since, rules_of}
use Rattle.nts_meaning.specs.Searching.{assumed_in}
use Rattle.nts_meaning.proofs.Evaluating.{Runs-trans, Since-later, IsPosed-later}
use Rattle.nts_meaning.proofs.Rounds.{grown, ran, search_then}
use Rattle.nts_meaning.proofs.Running.{both_sure}
use Rattle.nts_meaning.proofs.Searching.{Searches-refl, search_grows, tell_grown}
use Rattle.nts_evaluation.proofs.AskedSteps.{joined_fails}
use Rattle.nts_evaluation.proofs.PosedSteps.{posed_steps, kept_posed, all_asked_proved}
use Rattle.nts_trying.proofs.Adding.{goals_kept}
use Rattle.nts_store.specs.Growth.{tree_at}
use Rattle.nts_store.proofs.Growing.{Extends-trans}
use Rattle.nts_model.specs.Lists.{Among}
use Rattle.nts_trying.proofs.HeldRelating.{relating_holds}
use Rattle.nts_trying.proofs.Ran.{ok_inside}
use Rattle.nts_model.specs.Derivations.Rules.{coherence, goal_kind}
use Rattle.nts_theory.specs.Telling.Reaches.{asks_nothing}
use Rattle.nts_trying.proofs.BegunInMode.{begins_in, doubted_in, may_be_asked}
use Rattle.nts_model.proofs.Tables.Bringing.{only-refl}
use Rattle.nts_evaluation.proofs.evaluate.+evaluate.Goals as goal

pub candidates::try_relating-returns-in_err-begun : goal.candidates::try_relating-returns-in_err-begun
candidates::try_relating-returns-in_err-begun g t c =
    let fails : is_err c.from_residual.result ≡ true = search rules in
    record {
      runs = search rules;
      searches = Searches-refl c.args.depth c.requires.search (ran c.begin_relating.ensures.runs);
      labels = IfOk-from_err c.from_residual.result _ fails;
      proved = search rules;
      told = λ s tells. IfOk-from_err c.from_residual.result _ fails;
      refuted = λ s tells n.
          let no : c.begin_relating.result ≡ Err EvalError.NoSolution = search rules in
          elim (c.begin_relating.ensures.no no) [ inl u ↦ is_unmet u | inr u ↦ is_unrelated (rw s.declared u) ];
      decided = λ s n b d can. absurd (c.requires.some d.plain);
    }

pub candidates::try_relating-try_evaluate_goals-requires : goal.candidates::try_relating-try_evaluate_goals-requires
candidates::try_relating-try_evaluate_goals-requires g t c = λ κs k-1.
    let b = c.in_ok-begun.ensures in
    let begins = b.begins in (
      omega (arith, c.decreases),
      (
        k-1,
        (
          c.pose_asked.ensures.runs.goes.table,
          (
            kept_posed c.in_ok-kept.ensures.asks,
            (
              g.met.H.GoalHandler.ready_kept _ _ _ c.requires.ready (Extends-trans b.runs.goes.extends c.pose_asked.ensures.runs.goes.extends),
              search_grows c.args.depth c.args.depth (omega arith) c.requires.search (grown (ran b.runs) (ran c.pose_asked.ensures.runs)),
            ),
          ),
        ),
      ),
    )

-- in coherence it is in doubt where relating left another goal than that an alias is equal to a term without aliases, or to another alias
pub candidates::try_relating-returns-then-not-may_ask : goal.candidates::try_relating-returns-then-not-may_ask
candidates::try_relating-returns-then-not-may_ask g t c =
    let b = c.in_ok-begun.ensures in
    let begins = b.begins in
    let m = c.begin_relating.new.cx in
    let u = c.begin_relating.new.table in
    let inside : mode_of u.mode ≡ coherence = ap mode_of (sym c.typing_mode.ensures) ∙ c.may_ask.ensures.no c.if-not-may_ask.true in
    record {
      runs = b.runs;
      searches = Searches-refl c.args.depth c.requires.search (ran b.runs);
      labels = begins.labels (only-refl _ _);
      proved = λ s y. cc y;
      told = λ s tells.
          (let first = begins.begun in
          let asks = candidate_of c.args.cx.now.nodes c.args.candidate.now in
          record {
            left = goals_with first.values asks.goals;
            met = content_of m.nodes u.entries;
            begun = rw s.declared (doubted_in _ _ _ _ _ _ _ begins.begun begins.continues (ap mode_of (sym b.runs.goes.mode) ∙ inside));
            goals = goals_with first.values asks.goals;
            posed = content_of m.nodes u.entries;
            poses = posed_in_as_it_is _ _ _ (goals_with first.values asks.goals);
            reaches = asks_nothing;
          });
      refuted = λ s tells n. cc n;
      decided = λ s n k d can. absurd (c.requires.some d.plain);
    }

pub candidates::try_relating-returns-in_err-certainty : goal.candidates::try_relating-returns-in_err-certainty
candidates::try_relating-returns-in_err-certainty g t c =
    let b = c.in_ok-begun.ensures in
    let begins = b.begins in
    let e = posed_steps (rules_of g.H.GoalHandler.ready g.H.GoalHandler.handler c.args.handler.now) c.begin_relating.new.cx c.pose_asked.new.cx c.try_evaluate_goals.new.cx _ _ c.begin_relating.new.table c.pose_asked.new.table c.try_evaluate_goals.new.table c.args.table.now.mode _ c.in_ok-begun.begun.goals.items _ _ _ _ _ _ _ b.runs.goes.mode c.pose_asked.ensures.runs c.in_ok-kept.ensures.asks (search_grows c.args.depth c.args.depth (omega arith) c.requires.search (ran b.runs)) c.terms_are_formed.ensures c.terms_are_formed-2.ensures begins.posed c.try_evaluate_goals.ensures in
    let m = c.begin_relating.new.cx in
    let u = c.begin_relating.new.table in
    let fails : is_err c.from_residual-in_err-certainty.result ≡ true = search rules in
    record {
      runs = Runs-trans b.runs e.runs;
      searches = search_then c.args.depth c.requires.search (ran b.runs) e.searches;
      labels = IfOk-from_err c.from_residual-in_err-certainty.result _ fails;
      proved = search rules;
      told = λ s tells. IfOk-from_err c.from_residual-in_err-certainty.result _ fails;
      refuted = λ s tells n.
          let h = ruling_since (λ ts. g.H.GoalHandler.handler ts c.args.handler.now) s in
          let refused : c.try_evaluate_goals.result ≡ Err EvalError.NoSolution = search rules in
          let no = e.refuted (Since-later (ran b.runs) s) (tell_grown h c.args.depth c.requires.search (ran b.runs) tells) (joined_fails _ c.in_ok-kept.kept refused) in
          let o = rw (c.goal_kind-kind.ensures.kind s.base s.variances) at no in
          is_refused (goals_at m.nodes c.in_ok-begun.begun.goals.items) o.goals (content_of m.nodes u.entries) o.posed (rw s.declared (begins_in _ _ _ _ _ _ _ begins.begun begins.continues (may_be_asked begins.equalities (ap mode_of (c.typing_mode.ensures ∙ b.runs.goes.mode)) (c.may_ask.ensures.yes c.if-not-may_ask.false)))) o.poses o.refuses;
      decided = λ s n k d can. absurd (c.requires.some d.plain);
    }

pub candidates::try_relating-returns : goal.candidates::try_relating-returns
candidates::try_relating-returns g t c =
    let b = c.in_ok-begun.ensures in
    let begins = b.begins in
    let e = posed_steps (rules_of g.H.GoalHandler.ready g.H.GoalHandler.handler c.args.handler.now) c.begin_relating.new.cx c.pose_asked.new.cx c.try_evaluate_goals.new.cx _ _ c.begin_relating.new.table c.pose_asked.new.table c.try_evaluate_goals.new.table c.args.table.now.mode _ c.in_ok-begun.begun.goals.items _ _ _ _ _ _ _ b.runs.goes.mode c.pose_asked.ensures.runs c.in_ok-kept.ensures.asks (search_grows c.args.depth c.args.depth (omega arith) c.requires.search (ran b.runs)) c.terms_are_formed.ensures c.terms_are_formed-2.ensures begins.posed c.in_ok-certainty.ensures in
    let m = c.begin_relating.new.cx in
    let u = c.begin_relating.new.table in
    let z = c.try_evaluate_goals.new.cx in
    let w = c.try_evaluate_goals.new.table in
    let gs = c.in_ok-begun.begun.goals.items in
    let mode = c.args.table.now.mode in
    record {
      runs = Runs-trans b.runs e.runs;
      searches = search_then c.args.depth c.requires.search (ran b.runs) e.searches;
      labels = begins.labels e.labels;
      proved = λ s y.
          let h = g.H.GoalHandler.handler s.base c.args.handler.now in
          let sure = both_sure _ _ (sym c.and-2.ensures ∙ ok_inside y) in
          let m = meaning h s.variances in
          let A = assumed_in z.nodes c.try_evaluate_goals.new.graph in
          let settled = rw (c.goal_kind-kind.ensures.kind s.base s.variances) at (e.proved (Since-later (ran b.runs) s) c.terms_are_formed-3.ensures (ap Ok (sym c.and.ensures ∙ sure.1))) in
          let all = all_asked_proved m (mode_of mode) A (goal_kind m (tree_at c.args.cx.now.nodes c.args.goal.predicate.node)) gs begins.posed e.runs.goes c.terms_are_formed-3.ensures settled in
          relating_holds m (mode_of mode) A c.args.goal c.args.candidate.now gs c.in_ok-begun.begun.equalities z.nodes w c.requires.posed c.requires.candidate c.requires.some begins s.declared e.runs.goes c.terms_are_formed-3.ensures
          (λ p i. all p (subst (λ ps. Among ps p) (goals_kept c.begin_relating.new.cx.nodes z.nodes u gs e.runs.goes.extends begins.posed) i)) (ap certainty_of sure.0);
      told = λ s tells.
          let h = ruling_since (λ ts. g.H.GoalHandler.handler ts c.args.handler.now) s in
          let o = rw (c.goal_kind-kind.ensures.kind s.base s.variances) at (e.told (Since-later (ran b.runs) s) (tell_grown h c.args.depth c.requires.search (ran b.runs) tells)) in
          record {
            left = goals_at m.nodes gs;
            met = content_of m.nodes u.entries;
            begun = rw s.declared (begins_in _ _ _ _ _ _ _ begins.begun begins.continues (may_be_asked begins.equalities (ap mode_of (c.typing_mode.ensures ∙ b.runs.goes.mode)) (c.may_ask.ensures.yes c.if-not-may_ask.false)));
            goals = o.goals;
            posed = o.posed;
            poses = o.poses;
            reaches = o.reaches;
          };
      refuted = search rules;
      decided = λ s n k d can. absurd (c.requires.some d.plain);
    }

pub candidates::try_relating-returns-in_err-kept : goal.candidates::try_relating-returns-in_err-kept
candidates::try_relating-returns-in_err-kept g t c =
    let b = c.in_ok-begun.ensures in
    let fails : is_err c.from_residual-in_err-kept.result ≡ true = search rules in
    record {
      runs = Runs-trans b.runs c.pose_asked.ensures.runs;
      searches = Searches-refl c.args.depth c.requires.search (grown (ran b.runs) (ran c.pose_asked.ensures.runs));
      labels = IfOk-from_err c.from_residual-in_err-kept.result _ fails;
      proved = search rules;
      told = λ s tells. IfOk-from_err c.from_residual-in_err-kept.result _ fails;
      refuted = search rules;
      decided = λ s n k d can. absurd (c.requires.some d.plain);
    }

pub candidates::try_relating-pose_asked-requires : goal.candidates::try_relating-pose_asked-requires
candidates::try_relating-pose_asked-requires g t c =
    let b = c.in_ok-begun.ensures in
    let begins = b.begins in
    let goal = IsPosed-later b.runs.goes c.requires.posed in
    record { goal = goal.holds.predicate; table = b.runs.goes.table; posed = begins.posed }
