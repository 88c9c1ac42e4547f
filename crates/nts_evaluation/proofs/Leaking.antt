-- A run of a candidate, after the handler's leak check.
use Rattle.std.proofs.Common.{◌≡◌, ◌⊎◌, inl, inr, ℕ, arith, sym, ◌∙◌, subst}
use Rattle.std.specs.Prelude.{Result, Ok, Err, IfOk, IfErr, OnOk}
use Rattle.nts_store.specs.declared.fault.EvalError.{EvalError}
use Rattle.nts_store.specs.declared.fault.EvalError.TheVariants as error
use Rattle.nts_certainty.specs.declared.certainty.Certainty.{Certainty}
use Rattle.nts_certainty.specs.declared.certainty.Certainty.TheVariants as certainty
use Rattle.nts_terms.specs.declared.cx.Cx.{Cx}
use Rattle.nts_terms.specs.declared.handles.Goal.{Goal}
use Rattle.nts_terms.specs.Handles.{HoldsGoal}
use Rattle.nts_terms.specs.Rest.{Grows}
use Rattle.nts_unify.specs.Reading.{content_of}
use Rattle.nts_unify.specs.Lawful.{content_of-extended}
use Rattle.nts_table.specs.Tables.{Table}
use Rattle.nts_delegate.specs.SameHandlers.{MeansSame}
use Rattle.nts_candidates.specs.declared.data.CandidateData.{CandidateData}
use Rattle.nts_candidates.proofs.Results.{OnOk-map}
use Rattle.nts_search.specs.declared.stack.SearchGraph.{SearchGraph}
use Rattle.nts_theory.specs.Telling.Fails.{is_leaky}
use Rattle.nts_meaning.specs.Meant.{Rules, Since, ruling_since, FailsIn, HasRunTo}
use Rattle.nts_meaning.specs.Searching.{IsSearch}
use Rattle.nts_meaning.proofs.Evaluating.{Runs-trans, Runs-extends}
use Rattle.nts_meaning.proofs.Searching.{search_later, search_grown, covers_grown, held_more}
use Rattle.nts_evaluation.specs.Promises.{RunsOne}
use Rattle.nts_evaluation.proofs.DecidedCandidates.{checked_decided}

-- what is checked is answered by what ran, where it is answered
ok_ran : {X E : Type 0} (P : Type 0) (r s : Result X E) → IfOk s (λ y. r ≡ Ok y) → OnOk r P → OnOk s P
ok_ran P r (Ok y) h p = subst (λ o. OnOk o P) h p
ok_ran P r (Err e) h p = tt

sure_ran : (r s : Result Certainty EvalError) → IfOk s (λ y. r ≡ Ok y) → s ≡ Ok certainty.Yes → r ≡ Ok certainty.Yes
sure_ran r s h e = subst (λ o. IfOk o (λ y. r ≡ Ok y)) e h

-- it ran to a leak, or the run was refused
leaks_or_not : (Refused Leaks : Type 0) (Ran : Type 0) (r s : Result Certainty EvalError) → IfErr r (λ e. s ≡ Err e) → OnOk r Ran → s ≡ Err error.NoSolution → (r ≡ Err error.NoSolution → Refused) → r ≡ Err error.NoSolution ⊎ Leaks → (Ran → Leaks → Refused) → Refused
leaks_or_not Refused Leaks Ran (Ok y) s h ran e refused (inl q) leaks = refused q
leaks_or_not Refused Leaks Ran (Ok y) s h ran e refused (inr l) leaks = leaks ran l
leaks_or_not Refused Leaks Ran (Err x) s h ran e refused d leaks = refused (sym h ∙ e)

module _ {R : Rules} {a b c : Cx} {g h : SearchGraph} {t u : Table} {goal : Goal} {x : CandidateData} (n : ℕ) (r s : Result Certainty EvalError)
    (search : IsSearch a g n) (holds : HoldsGoal a.nodes goal) (ran : RunsOne R a b g h t u goal x n r) (grows : Grows b c)
    (ok : IfOk s (λ y. r ≡ Ok y)) (err : IfErr r (λ e. s ≡ Err e)) (leaks : s ≡ Err error.NoSolution → r ≡ Err error.NoSolution ⊎ (R.handler b.nodes).leaks (content_of b.nodes u.entries) 0)
    (means : (z : Since R.ready a) → MeansSame (R.handler b.nodes) (R.handler z.base)) where
  same : content_of c.nodes u.entries ≡ content_of b.nodes u.entries
  same = (let goes = ran.runs.goes in content_of-extended grows.extends goes.table.now)

  pub checked : RunsOne R a c g h t u goal x n s
  checked =
      let goes = ran.runs.goes in
      record {
        runs = Runs-trans ran.runs (Runs-extends goes.table grows.extends grows.rest);
        searches = search_grown n search ran.searches grows;
        labels = ok_ran _ r s ok (OnOk-map r (λ l. rw same l) ran.labels);
        proved = λ z e. rw same (held_more (covers_grown n (search_later n n (omega arith) search ran.searches) grows) (ran.proved z (sure_ran r s ok e)));
        told = λ z tells. ok_ran _ r s ok (OnOk-map r (λ to. record { left = to.left; met = to.met; begun = to.begun; goals = to.goals; posed = to.posed; poses = to.poses; reaches = rw same to.reaches }) (ran.told z tells));
        refuted = λ z tells e.
            leaks_or_not (FailsIn (ruling_since R.handler z) t.mode a.nodes t goal x) _ (HasRunTo (ruling_since R.handler z) t.mode a.nodes t b.nodes u goal x) r s err (ran.told z tells) e (ran.refuted z tells) (leaks e)
            (λ to l. is_leaky to.left to.goals to.met to.posed (content_of b.nodes u.entries) to.begun to.poses to.reaches (let m = means z in m.leaks (content_of b.nodes u.entries) 0 l));
        decided = λ z j k d can.
            checked_decided (R.handler z.base) (content_of b.nodes u.entries) r s can.tight ok
            (λ e. elim (leaks e) [ inl q ↦ inl q | inr l ↦ inr (let m = means z in m.leaks (content_of b.nodes u.entries) 0 l) ]) (ran.decided z j k d can);
      }
