-- The responses of a goal's candidates, one by one, and the one that stands for them.
use Rattle.std.proofs.Common.{◌≡◌, inl, inr, ℕ, ◌+◌, ◌<◌, List, [], ◌∷◌, ◌++◌, map, length, take, get_or, refl, sym, ap, ◌∙◌, subst}
use Rattle.std.specs.Prelude.{All, Result, Ok, Err, OnErr}
use Rattle.std.proofs.lemmas.List.{take_more, map-append}
use Rattle.std.proofs.lemmas.List.Elements.{All-head, All-tail, All-push}
use Rattle.nts_model.specs.Terms.Trees.{Tree}
use Rattle.nts_meaning.specs.Telling.{Ruling, Outcomes, Replies, Fails}
use Rattle.nts_certainty.specs.declared.certainty.Certainty.TheVariants as certainty
use Rattle.nts_store.specs.declared.fault.EvalError.{EvalError}
use Rattle.nts_store.specs.declared.fault.EvalError.TheVariants as error
use Rattle.nts_store.specs.Formed.{AreFormed}
use Rattle.nts_store.specs.Growth.{Extends, tree_at}
use Rattle.nts_terms.specs.declared.handles.GenericArg.{GenericArg}
use Rattle.nts_terms.specs.declared.handles.Goal.{Goal}
use Rattle.nts_terms.specs.declared.modes.TypingMode.{TypingMode}
use Rattle.nts_terms.specs.Modes.{mode_of}
use Rattle.nts_terms.specs.Handles.{HoldsGoal}
use Rattle.nts_unify.specs.Reading.{content_of}
use Rattle.nts_unify.specs.Lawful.{content_of-extended}
use Rattle.nts_table.specs.Tables.{Table, IsTable}
use Rattle.nts_candidates.specs.declared.data.CandidateData.{CandidateData}
use Rattle.nts_delegate.specs.Candidates.{IsCandidate}
use Rattle.nts_candidates.specs.Offered.{candidate_of, candidates_of}
use Rattle.nts_canonical.specs.declared.types.Canonical.{Canonical}
use Rattle.nts_canonical.specs.Forms.{trees_of}
use Rattle.nts_canonical.specs.Building.{IsArgOf}
use Rattle.nts_response.specs.declared.types.Response.{Response}
use Rattle.nts_response.specs.Forms.{response_at}
use Rattle.std.specs.Global.{Box}
use Rattle.nts_meaning.specs.Answering.{IfAnswered, verdict_at}
use Rattle.nts_trying.specs.Found.{Found, IsMerged, kept_after}
use Rattle.nts_theory.specs.Telling.{IsPlainResponse, StandsForAll, kind_for}
use Rattle.nts_theory.specs.Telling.Outcomes.{no_outcome, then_fails, then_replies}
use Rattle.nts_meaning.specs.Meant.{HaveOutcomes, CandidatesTell, RepliesWith, FailsIn}
use Rattle.nts_meaning.proofs.AskedGoals.{trees_kept}
use Rattle.nts_meaning.proofs.Evaluating.{Goes-trans, Goes-extends}
use Rattle.nts_trying.proofs.Labels.{only_back}
use Rattle.nts_meaning.proofs.Running.{candidate-kept}
use Rattle.nts_trying.proofs.Probed.{found_later, found_with, found_still}
use Rattle.nts_trying.proofs.MergedResponses.{doubt_unsure, told_unsure, merged_stands, merged_among, unsure_yes}
use Rattle.nts_meaning.proofs.Told.{verdict_same}

-- what was found for a goal in a store that has grown, seen from the smaller store
pub found_earlier : {P Q : List Tree → Table → Type 0} {a b e : List Tree} {t : Table} {g : Goal} {qs : List GenericArg} (r : Canonical Response) → Extends a b → IsTable a t → HoldsGoal a g → All (IsArgOf a t.entries) qs → ((c : List Tree) (u : Table) → P c u → Q c u) → Found P b e t g qs r → Found Q a e t g qs r
found_earlier {P} {Q} {a} {b} {e} {t} {g} {qs} r up w holds args p f =
    record {
      store = f.store;
      after = f.after;
      formed = f.formed;
      goes = Goes-trans (Goes-extends w up) f.goes;
      labels = only_back {g = g} up w holds f.labels;
      extends = f.extends;
      says = rw (trees_kept a b t.entries qs up args) at f.says;
      holds = f.holds;
      no_more = f.no_more;
      sure = λ y. p f.store f.after (f.sure y);
    }

-- .. of which the store has grown from the first
pub found_of : {P Q : List Tree → Table → Type 0} {b e : List Tree} {t : Table} {g : Goal} {qs : List GenericArg} (r : Canonical Response) → ((c : List Tree) (u : Table) → Extends b c → P c u → Q c u) → Found P b e t g qs r → Found Q b e t g qs r
found_of r p f =
    record {
      store = f.store;
      after = f.after;
      formed = f.formed;
      goes = f.goes;
      labels = f.labels;
      extends = f.extends;
      says = f.says;
      holds = f.holds;
      no_more = f.no_more;
      sure = λ y. p f.store f.after f.goes.extends (f.sure y);
    }

-- the responses in a store that has grown
responses_same : {P : List Tree → Table → Type 0} {a b e : List Tree} {t : Table} {g : Goal} {qs : List GenericArg} (rs : List (Canonical Response)) → Extends b e → All (Found P a b t g qs) rs → map (verdict_at e) rs ≡ map (verdict_at b) rs
responses_same [] k h = refl
responses_same {P} {a} {b} {e} {t} {g} {qs} (r ∷ rs) k h =
    let one = All-head (Found P a b t g qs) r rs h in
    let first = verdict_same b e r k one.holds in
    let rest = responses_same rs k (All-tail (Found P a b t g qs) r rs h) in
    λ i. first i ∷ rest i

-- one more is found
pub founds_more : {P : List Tree → Table → Type 0} {a b e : List Tree} {t : Table} {g : Goal} {qs : List GenericArg} (rs new : List (Canonical Response)) (x : Result (Box (Canonical Response)) EvalError) → Extends b e → All (Found P a b t g qs) rs → IfAnswered x (Found P a e t g qs) → new ≡ kept_after rs x → All (Found P a e t g qs) new
founds_more {P} {a} {b} {e} {t} {g} {qs} rs new (Ok r) k h f q = subst (All (Found P a e t g qs)) (sym q) (All-push (Found P a e t g qs) rs r.value (λ i d l. found_later (get_or rs i d) k (h i d l)) f)
founds_more {P} {a} {b} {e} {t} {g} {qs} rs new (Err z) k h f q = subst (All (Found P a e t g qs)) (sym q) (λ i d l. found_later (get_or rs i d) k (h i d l))

-- .. from which more follows
pub founds_with : {P Q : List Tree → Table → Type 0} {a b : List Tree} {t : Table} {g : Goal} {qs : List GenericArg} (rs : List (Canonical Response)) → ((c : List Tree) (u : Table) → P c u → Q c u) → All (Found P a b t g qs) rs → All (Found Q a b t g qs) rs
founds_with {P} {Q} {a} {b} {t} {g} {qs} rs p h = λ i d l. found_with (get_or rs i d) p (h i d l)

-- what is dropped has failed
pub failed_of : {T : Type 0} {F : Type 0} (r : Result T EvalError) → OnErr r (r ≡ Err error.NoSolution) → (r ≡ Err error.NoSolution → F) → OnErr r F
failed_of (Ok x) h f = tt
failed_of (Err z) h f = f h

-- no candidate was asked yet
pub outcomes_first : (a b : List Tree) (t : Table) (g : Goal) (h : Ruling) (mode : TypingMode) (qs : List GenericArg) (xs : List CandidateData) (rs : List (Canonical Response)) → rs ≡ [] → HaveOutcomes h mode a t g qs (take 0 xs) (map (verdict_at b) rs)
outcomes_first a b t g h mode qs xs rs q = subst (λ z. HaveOutcomes h mode a t g qs [] (map (verdict_at b) z)) (sym q) no_outcome

-- a candidate in a store that has grown
candidates_next : (ts : List Tree) (xs : List CandidateData) (i : ℕ) (d : CandidateData) → i < length xs → candidates_of ts (take (i + 1) xs) ≡ candidates_of ts (take i xs) ++ candidate_of ts (get_or xs i d) ∷ []
candidates_next ts xs i d l = ap (map (candidate_of ts)) (take_more xs i d l) ∙ map-append (candidate_of ts) (take i xs) (get_or xs i d ∷ [])

pub outcomes_more : {P : List Tree → Table → Type 0} {a b e : List Tree} {t : Table} {g : Goal} {qs : List GenericArg} (h : Ruling) (mode : TypingMode) (xs : List CandidateData) (i : ℕ) (d x : CandidateData) (rs new : List (Canonical Response)) (y : Result (Box (Canonical Response)) EvalError)
    → i < length xs → x ≡ get_or xs i d → Extends a b → Extends b e → IsTable a t → All (IsArgOf a t.entries) qs → IsCandidate a g (get_or xs i d) → All (Found P a b t g qs) rs → new ≡ kept_after rs y
    → HoldsGoal a g → IfAnswered y (RepliesWith h mode b t g qs x e) → OnErr y (FailsIn h mode b t g x) → HaveOutcomes h mode a t g qs (take i xs) (map (verdict_at b) rs) → HaveOutcomes h mode a t g qs (take (i + 1) xs) (map (verdict_at e) new)
outcomes_more {P} {a} {b} {e} {t} {g} {qs} h mode xs i d x rs new y l is ab be w args candidate found q held told failed before =
    let environment = ab.kept g.param_env.node held.env.within in
    let predicate = ab.kept g.predicate.node held.predicate.within in
    let c = content_of a t.entries in
    let now = content_of-extended ab w.now in
    let trees = trees_kept a b t.entries qs ab args in
    let kept = candidate-kept {a = a} {b = b} {g = g} {d = get_or xs i d} ab candidate in
    let there : candidate_of b x ≡ candidate_of a (get_or xs i d) = ap (candidate_of b) is ∙ kept in
    let earlier : Outcomes h (mode_of mode) c (tree_at a g.param_env.node) (tree_at a g.predicate.node) (trees_of a qs) (candidates_of a (take i xs)) (map (verdict_at e) rs) = rw (responses_same rs be found) before in
    by_answer y q told failed earlier now trees there environment predicate
  where
    by_answer : (y : Result (Box (Canonical Response)) EvalError) → new ≡ kept_after rs y → IfAnswered y (RepliesWith h mode b t g qs x e) → OnErr y (FailsIn h mode b t g x) → Outcomes h (mode_of mode) (content_of a t.entries) (tree_at a g.param_env.node) (tree_at a g.predicate.node) (trees_of a qs) (candidates_of a (take i xs)) (map (verdict_at e) rs)
        → content_of b t.entries ≡ content_of a t.entries → trees_of b qs ≡ trees_of a qs → candidate_of b x ≡ candidate_of a (get_or xs i d) → tree_at b g.param_env.node ≡ tree_at a g.param_env.node → tree_at b g.predicate.node ≡ tree_at a g.predicate.node → HaveOutcomes h mode a t g qs (take (i + 1) xs) (map (verdict_at e) new)
    by_answer (Ok r) q told failed earlier now trees there environment predicate =
        let one : Replies h (mode_of mode) (content_of a t.entries) (tree_at a g.param_env.node) (tree_at a g.predicate.node) (trees_of a qs) (candidate_of a (get_or xs i d)) (verdict_at e r.value) = rw (now, trees, there, environment, predicate) at told in
        rw (candidates_next a xs i d l, q, map-append (verdict_at e) rs (r.value ∷ [])) (then_replies earlier one)
    by_answer (Err z) q told failed earlier now trees there environment predicate =
        let one : Fails h (mode_of mode) (kind_for h.handler (tree_at a g.predicate.node)) (content_of a t.entries) (tree_at a g.param_env.node) (candidate_of a (get_or xs i d)) = rw (now, there, environment, predicate) at failed in
        rw (candidates_next a xs i d l, q) (then_fails earlier one)

-- the response that stands for all
pub found_merged : {P : List Tree → Table → Type 0} {a b e : List Tree} {t : Table} {g : Goal} {qs : List GenericArg} (rs : List (Canonical Response)) (r : Canonical Response) → Extends a b → Extends b e → AreFormed b → IsTable a t → All (IsArgOf a t.entries) qs → All (Found P a b t g qs) rs → IsMerged b e t qs rs r → Found P a e t g qs r
found_merged {P} {a} {b} {e} {t} {g} {qs} rs r ab be formed w args found (inl stands) =
    let (i, l, is) = merged_among b rs r stands.why stands.merges in
    found_later r be (subst (Found P a b t g qs) is (found i r l))
found_merged {P} {a} {b} {e} {t} {g} {qs} rs r ab be formed w args found (inr (none, doubt, plain, holds, no_more)) =
    let unsure = λ (y : r.value.certainty ≡ certainty.Yes). doubt_unsure (map (λ c. c.value.certainty) rs) (sym doubt ∙ y) in
    found_still r r.value.certainty w ab formed be args refl unsure (rw (told_unsure r.value.certainty (content_of b t.entries) unsure) plain) holds no_more

pub told_merged : {P : List Tree → Table → Type 0} {a b e : List Tree} {t : Table} {g : Goal} {qs : List GenericArg} (h : Ruling) (mode : TypingMode) (xs : List CandidateData) (rs : List (Canonical Response)) (r : Canonical Response) → Extends a b → Extends b e → IsTable a t → All (IsArgOf a t.entries) qs → All (Found P a b t g qs) rs
    → HaveOutcomes h mode a t g qs xs (map (verdict_at b) rs) → IsMerged b e t qs rs r → CandidatesTell h mode a t g qs xs e r
told_merged {P} {a} {b} {e} {t} {g} {qs} h mode xs rs r ab be w args found outcomes (inl stands) =
    let (i, l, is) = merged_among b rs r stands.why stands.merges in
    let one : Found P a b t g qs r = subst (Found P a b t g qs) is (found i r l) in
    inl (
      map (verdict_at b) rs,
      outcomes,
      subst (StandsForAll (trees_of a qs) (map (verdict_at b) rs)) (sym (verdict_same b e r be one.holds))
          (subst (λ z. StandsForAll z (map (verdict_at b) rs) (verdict_at b r)) (trees_kept a b t.entries qs ab args) (merged_stands b qs rs r stands)),
    )
told_merged {P} {a} {b} {e} {t} {g} {qs} h mode xs rs r ab be w args found outcomes (inr (none, doubt, plain, holds, no_more)) =
    inr (
      unsure_yes r.value.certainty (λ y. doubt_unsure (map (λ c. c.value.certainty) rs) (sym doubt ∙ y)),
      subst (λ z. IsPlainResponse z (trees_of a qs) (response_at e r)) (content_of-extended ab w.now) (subst (λ z. IsPlainResponse (content_of b t.entries) z (response_at e r)) (trees_kept a b t.entries qs ab args) plain),
    )
