-- The candidates of a decided goal: each fares as it is decided, and the one response is that of the one that holds.
use Rattle.std.specs.Global.{Box}
use Rattle.std.proofs.Common.{◌≡◌, ◌⊎◌, ◌↔◌, inl, inr, ℕ, zero, suc, ◌<◌, ◌≤◌, ◌+◌, Bool, true, false, List, [], ◌∷◌, map, drop, length, get_or, Result, Ok, Err, refl, sym, ap, subst, ◌∙◌, arith}
use Rattle.std.specs.Prelude.{All, OnErr, IfOk, Some}
use Rattle.std.proofs.lemmas.List.{drop_all}
use Rattle.nts_model.specs.declared.labels.Leaf.{Leaf}
use Rattle.nts_model.specs.declared.labels.Sort.TheVariants as sort
use Rattle.nts_model.specs.Terms.Trees.{Tree}
use Rattle.nts_model.specs.Tables.Contents.{Content}
use Rattle.nts_model.specs.Terms.Substitutions.{leaf_tree}
use Rattle.nts_model.specs.Canonical.Inputs.{PositionKind, placeholder}
use Rattle.nts_model.specs.Answers.Responses.{universe_of_kind}
use Rattle.nts_model.specs.declared.labels.Sort.{Sort}
use Rattle.nts_model.specs.Derivations.Rules.{Mode}
use Rattle.nts_model.specs.Derivations.Handlers.{Handler, certain, HasNoLeaks}
use Rattle.nts_theory.specs.Telling.{IsResponseOf, AreTermsOfKinds, IsTermOfKind}
use Rattle.nts_decisions.specs.Queries.{AreRootKinds}
use Rattle.nts_decisions.specs.Faring.{Fares, OneFares, no_more, next_fails, next_holds}
use Rattle.nts_decisions.proofs.OwnAnswers.{IsRootPlaceholder, of_type, of_const, of_region, AreRootPlaceholders}
use Rattle.nts_decisions.proofs.OwnResponses.{own_terms}
use Rattle.nts_certainty.specs.declared.certainty.Certainty.{Certainty}
use Rattle.nts_certainty.specs.declared.certainty.Certainty.TheVariants as certainty
use Rattle.nts_store.specs.declared.fault.EvalError.{EvalError}
use Rattle.nts_store.specs.declared.fault.EvalError.TheVariants as error
use Rattle.nts_store.specs.Growth.{tree_at}
use Rattle.nts_store.proofs.Growing.{Extends-refl}
use Rattle.nts_terms.specs.declared.handles.GenericArg.{GenericArg}
use Rattle.nts_terms.specs.declared.modes.TypingMode.{TypingMode}
use Rattle.nts_terms.specs.Modes.{mode_of}
use Rattle.nts_unify.specs.Reading.{content_of}
use Rattle.nts_table.specs.Tables.{Table}
use Rattle.nts_canonical.specs.declared.types.Canonical.{Canonical}
use Rattle.nts_canonical.specs.declared.types.CanonicalVarKind.{CanonicalVarKind}
use Rattle.nts_canonical.specs.Forms.{trees_of, kind_of_var}
use Rattle.nts_canonical.specs.Kinds.{value_leaf, value_leaves, count_of, kind_of_position}
use Rattle.nts_candidates.specs.declared.data.CandidateData.{CandidateData}
use Rattle.nts_candidates.specs.Offered.{certainty_of, candidate_of, candidates_of}
use Rattle.nts_response.specs.declared.types.Response.{Response}
use Rattle.nts_response.specs.Forms.{response_at, recorded_at, FoundNothing}
use Rattle.nts_response.specs.Same.{AreOneResponse}
use Rattle.nts_search.specs.declared.merging.MergeCandidateInfo.{MergeCandidateInfo}
use Rattle.nts_search.specs.declared.merging.MergeCandidateInfo.TheVariants as info
use Rattle.nts_search.specs.Merging.{AppliesAlways, Merges}
use Rattle.nts_search.specs.declared.stack.SearchGraph.{SearchGraph}
use Rattle.nts_trying.specs.Found.{IsOverTerms, StandsForThem, IsMerged, kept_after}
use Rattle.nts_trying.specs.Found.{Found}
use Rattle.nts_meaning.specs.Answering.{told_in, IfAnswered}
use Rattle.nts_terms.specs.declared.handles.Goal.{Goal}
use Rattle.nts_evaluation.specs.Deciding.{IsAsBefore, Decides, IsYes, AreRootValues, IsOverIfSilent}
use Rattle.nts_evaluation.proofs.Deciding.{decides_no}

-- positions that are placeholders stand for themselves
root_leaf : (s : Sort) (n m : ℕ) → IsRootPlaceholder n (value_leaf (placeholder s 0 n) 0 m)
root_leaf sort.Ty n m = of_type
root_leaf sort.Const n m = of_const
root_leaf sort.Region n m = of_region

pub root_leaves : (n m : ℕ) (ks : List PositionKind) → AreRootKinds n ks → AreRootPlaceholders n (value_leaves m ks)
root_leaves n m [] h = tt
root_leaves n m (k ∷ ks) h =
    let x = h.0 in
    (subst (λ z. IsRootPlaceholder n (value_leaf z (universe_of_kind z) m)) (sym x.1) (root_leaf x.0 n m), root_leaves (suc n) (m + count_of (kind_of_position k)) ks h.1)

pub leaves_long : (m : ℕ) (ks : List PositionKind) → length (value_leaves m ks) ≡ length ks
leaves_long m [] = refl
leaves_long m (k ∷ ks) = (let e : length (value_leaves (m + count_of (kind_of_position k)) ks) ≡ length ks = leaves_long (m + count_of (kind_of_position k)) ks in omega (arith, e))

-- a leak is never said, where the handler has none
pub checked_decided : {b : Bool} {g k : SearchGraph} (h : Handler) (c : Content) (r s : Result Certainty EvalError) → HasNoLeaks h → IfOk s (λ y. r ≡ Ok y) → (s ≡ Err error.NoSolution → r ≡ Err error.NoSolution ⊎ h.leaks c 0) → Decides b r IsYes g k → Decides b s IsYes g k
checked_decided {b = b} {g = g} {k = k} h c r (Ok y) tight ok leaks d = subst (λ z. Decides b z IsYes g k) ok d
checked_decided {b = b} {g = g} {k = k} h c r (Err error.NoSolution) tight ok leaks d = elim (leaks refl) [ inl q ↦ subst (λ z. Decides b z IsYes g k) q d | inr l ↦ absurd (tight c 0 l) ]
checked_decided h c r (Err error.Memory) tight ok leaks d = record { answer = tt; search = tt }
checked_decided h c r (Err error.Full) tight ok leaks d = record { answer = tt; search = tt }

-- a certain candidate
pub sure_yes : (c : Certainty) → certainty_of c ≡ certain → c ≡ certainty.Yes
sure_yes certainty.Yes e = refl
sure_yes (certainty.Maybe m) e = absurd (cc e)

-- the responses of the first candidates: none holds yet; or one did, of which Q is so, and no other one will
pub data AreSoFar (Q : Canonical Response → Type 0) (h : Handler) (mode : TypingMode) (n : ℕ) (a : List Tree) (t : Table) (rest : List CandidateData) (k : Bool) : List (Canonical Response) → Type 0 where
  none_held : OneFares h (mode_of mode) n (content_of a t.entries) (candidates_of a rest) k → AreSoFar Q h mode n a t rest k []
  one_held : (r : Canonical Response) → r.value.certainty ≡ certainty.Yes → Q r → k ≡ true → OneFares h (mode_of mode) n (content_of a t.entries) (candidates_of a rest) false → AreSoFar Q h mode n a t rest k (r ∷ [])

pub so_far_with : {Q P : Canonical Response → Type 0} {h : Handler} {mode : TypingMode} {n : ℕ} {a : List Tree} {t : Table} {rest : List CandidateData} {k : Bool} {rs : List (Canonical Response)} → ((r : Canonical Response) → Q r → P r) → AreSoFar Q h mode n a t rest k rs → AreSoFar P h mode n a t rest k rs
so_far_with f (none_held left) = none_held left
so_far_with f (one_held r y q e left) = one_held r y (f r q) e left

-- nothing more is asked of it
abbrev pub Anything : Canonical Response → Type 0
Anything r = Unit {0}

pub anything : (r : Result (Box (Canonical Response)) EvalError) → IfAnswered r Anything
anything (Ok z) = tt
anything (Err e) = tt

abbrev AnswersCandidate : Bool → Result (Box (Canonical Response)) EvalError → SearchGraph → SearchGraph → Type 0
AnswersCandidate b r g g2 = Decides b r (λ x. IsYes x.value.value.certainty) g g2

module _ (Q : Canonical Response → Type 0) (h : Handler) (mode : TypingMode) (n : ℕ) (a : List Tree) (t : Table) (x : CandidateData) (rest : List CandidateData) {g g2 : SearchGraph} where
  failed : (rs new : List (Canonical Response)) (r : Result (Box (Canonical Response)) EvalError) → new ≡ kept_after rs r → OnErr r (r ≡ Err error.NoSolution) → AnswersCandidate false r g g2 → (new ≡ rs) × IsAsBefore g g2
  failed rs new (Ok z) e o d = (let y = d.answer in absurd (cc y.0))
  failed rs new (Err error.NoSolution) e o d = (e, d.search)
  failed rs new (Err error.Memory) e o d = absurd (cc o)
  failed rs new (Err error.Full) e o d = absurd (cc o)

  held : (k : Bool) (new : List (Canonical Response)) (r : Result (Box (Canonical Response)) EvalError) → new ≡ kept_after [] r → OnErr r (r ≡ Err error.NoSolution) → AnswersCandidate true r g g2 → IfAnswered r Q → k ≡ true → OneFares h (mode_of mode) n (content_of a t.entries) (candidates_of a rest) false → AreSoFar Q h mode n a t rest k new × IsAsBefore g g2
  held k new (Ok z) e o d p q left = (let y = d.answer in (subst (AreSoFar Q h mode n a t rest k) (sym e) (one_held z.value y.1 p q left), d.search))
  held k new (Err error.NoSolution) e o d p q left = (let y : true ≡ false = d.answer in absurd (cc y))
  held k new (Err error.Memory) e o d p q left = absurd (cc o)
  held k new (Err error.Full) e o d p q left = absurd (cc o)

  pub next_so_far : (k : Bool) (rs new : List (Canonical Response)) (r : Result (Box (Canonical Response)) EvalError) → new ≡ kept_after rs r → OnErr r (r ≡ Err error.NoSolution) → ((b : Bool) → Fares h (mode_of mode) n (content_of a t.entries) (candidate_of a x) b → AnswersCandidate b r g g2) → (Fares h (mode_of mode) n (content_of a t.entries) (candidate_of a x) true → IfAnswered r Q)
      → AreSoFar Q h mode n a t (x ∷ rest) k rs → AreSoFar Q h mode n a t rest k new × IsAsBefore g g2
  next_so_far k rs new r e o d p (none_held (next_fails f left)) = (let y = failed [] new r e o (d false f) in (subst (AreSoFar Q h mode n a t rest k) (sym y.0) (none_held left), y.1))
  next_so_far k rs new r e o d p (none_held (next_holds f left)) = held k new r e o (d true f) (p f) refl left
  next_so_far k rs new r e o d p (one_held z y s q (next_fails f left)) = (let w = failed (z ∷ []) new r e o (d false f) in (subst (AreSoFar Q h mode n a t rest k) (sym w.0) (one_held z y s q left), w.1))

-- one response stands for itself
over_back : (ts : List Tree) (qs : List GenericArg) (ks : List CanonicalVarKind) → AreTermsOfKinds (map kind_of_var ks) (trees_of ts qs) → (length qs ≡ length ks) × ((i : ℕ) (q : GenericArg) (k : CanonicalVarKind) → i < length qs → IsTermOfKind (kind_of_var (get_or ks i k)) (tree_at ts (get_or qs i q).node))
over_back ts [] [] h = (refl, λ i q k l. absurd (omega (arith, l)))
over_back ts [] (k ∷ ks) h = absurd h
over_back ts (q ∷ qs) [] h = absurd h
over_back ts (q ∷ qs) (k ∷ ks) h = (let r = over_back ts qs ks h.1 in let e : length qs ≡ length ks = r.0 in (omega (arith, e), each r.1))
  where
    each : ((i : ℕ) (p : GenericArg) (j : CanonicalVarKind) → i < length qs → IsTermOfKind (kind_of_var (get_or ks i j)) (tree_at ts (get_or qs i p).node)) → (i : ℕ) (p : GenericArg) (j : CanonicalVarKind) → i < length (q ∷ qs) → IsTermOfKind (kind_of_var (get_or (k ∷ ks) i j)) (tree_at ts (get_or (q ∷ qs) i p).node)
    each r zero p j l = h.0
    each r (suc i) p j l = r i p j (omega (arith, l))

pub own_over : (ts e : List Tree) (qs : List GenericArg) (r : Canonical Response) (c : Content) (ls : List Leaf) → trees_of ts qs ≡ map leaf_tree ls → AreRootPlaceholders 0 ls → IsResponseOf c (trees_of ts qs) (response_at e r) → FoundNothing r.value.external_constraints → IsOverTerms ts qs r
own_over ts e qs r c ls values p says nothing =
    let none : (let x = response_at e r in let f = x.findings in f.constraints ≡ []) = ap (map (recorded_at e)) nothing.0 in
    let terms : AreTermsOfKinds (map kind_of_var r.var_kinds.items) (trees_of ts qs) = subst (AreTermsOfKinds (map kind_of_var r.var_kinds.items)) (sym values) (own_terms c ls (response_at e r) p (subst (λ z. IsResponseOf c z (response_at e r)) values says) none) in
    let over = over_back ts qs r.var_kinds.items terms in
    record { many = over.0; each = over.1 }

at_first : {X : Type 0} (P : X → Type 0) (x d : X) (i : ℕ) → i < length (x ∷ []) → P (get_or (x ∷ []) i d) → P x
at_first P x d zero l p = p
at_first P x d (suc i) l p = absurd (omega (arith, l))

module _ (ts : List Tree) (qs : List GenericArg) (r : Canonical Response) (over : AppliesAlways ts r → IsOverTerms ts qs r) where
  single_stands : ((s : Canonical Response) → StandsForThem ts qs (r ∷ []) s → ⊥) → ⊥
  single_stands none =
      let never : AppliesAlways ts r → ⊥ = λ a. none r (record { why = info.AlwaysApplicable 0; merges = (record { below = omega arith; is = λ d. a; first = λ j d l p. absurd (omega (arith, l)) }, refl); taken = over a }) in
      none r (record { why = info.EqualResponse; merges = (λ i d l p. never (at_first (AppliesAlways ts) r d i l p), record { some = omega arith; each = λ i d l. one_itself d i l }, refl); taken = tt })
    where
      one_itself : (d : Canonical Response) (i : ℕ) → i < length (r ∷ []) → AreOneResponse ts (get_or (r ∷ []) 0 d) (get_or (r ∷ []) i d)
      one_itself d zero l = record { certainty = refl; form = refl }
      one_itself d (suc i) l = absurd (omega (arith, l))

  stands_itself : (m : Canonical Response) → StandsForThem ts qs (r ∷ []) m → m ≡ r
  stands_itself m s = by_why s.why s.merges
    where
      by_place : (i : ℕ) → i < length (r ∷ []) → get_or (r ∷ []) i m ≡ m → m ≡ r
      by_place zero l e = sym e
      by_place (suc i) l e = absurd (omega (arith, l))

      by_why : (w : MergeCandidateInfo) → Merges ts (r ∷ []) (Some (m, w)) → m ≡ r
      by_why (info.AlwaysApplicable i) h = by_place i h.0.below h.1
      by_why info.EqualResponse h = sym h.2

  pub merged_single : (b : List Tree) (t : Table) (m : Canonical Response) → IsMerged ts b t qs (r ∷ []) m → m ≡ r
  merged_single b t m (inl s) = stands_itself m s
  merged_single b t m (inr x) = absurd (single_stands x.0)

-- all candidates were asked
nobody : {h : Handler} {mode : Mode} {n : ℕ} {c : Content} {j : Bool} → OneFares h mode n c [] j → j ≡ false
nobody no_more = refl

none_left : (h : Handler) (mode : TypingMode) (n : ℕ) (a : List Tree) (t : Table) (xs : List CandidateData) (i : ℕ) (j : Bool) → length xs ≤ i → OneFares h (mode_of mode) n (content_of a t.entries) (candidates_of a (drop i xs)) j → j ≡ false
none_left h mode n a t xs i j long f = nobody (subst (λ ys. OneFares h (mode_of mode) n (content_of a t.entries) (candidates_of a ys) j) (drop_all i xs long) f)

over_itself : {P : List Tree → Table → Type 0} {a z : List Tree} {t : Table} {goal : Goal} (qs : List GenericArg) → AreRootValues a qs → trees_of z qs ≡ trees_of a qs → (x : Canonical Response) → Found P a z t goal qs x → FoundNothing x.value.external_constraints → IsOverTerms z qs x
over_itself {z = z} qs roots trees x f nothing =
    own_over z z qs x (told_in x.value.certainty (content_of f.store (let v = f.after in v.entries))) (value_leaves 0 roots.kinds) (trees ∙ roots.values) (root_leaves 0 0 roots.kinds roots.roots) (subst (λ ts. IsResponseOf (told_in x.value.certainty (content_of f.store (let v = f.after in v.entries))) ts (response_at z x)) (sym trees) f.says) nothing

-- .. so the query is answered as it is decided, if the response that holds is over the terms once it says nothing
merged_over : (Q : Canonical Response → Type 0) (h : Handler) (mode : TypingMode) (n : ℕ) (a : List Tree) (t : Table) (xs : List CandidateData) (i : ℕ) (k : Bool) (z e : List Tree) (w : Table) {g : SearchGraph} (qs : List GenericArg) {rs : List (Canonical Response)} → length xs ≤ i
    → ((x : Canonical Response) → rs ≡ x ∷ [] → Q x → AppliesAlways z x → IsOverTerms z qs x) → (r : Result (Box (Canonical Response)) EvalError) → AreSoFar Q h mode n a t (drop i xs) k rs → IfAnswered r (IsMerged z e w qs rs) → (r ≡ Err error.NoSolution) ↔ (rs ≡ []) → AnswersCandidate k r g g
merged_over Q h mode n a t xs i k z e w qs long over r (none_held f) merged never = rw (never.1 refl) (decides_no k (none_left h mode n a t xs i k long f) (record { stack = refl; mark = refl }))
merged_over Q h mode n a t xs i k z e w qs long over (Ok m) (one_held x y p q left) merged never =
    (let same : m.value ≡ x = merged_single z qs x (over x refl p) e w m.value merged in
    record { answer = (q, ap (λ (v : Canonical Response). v.value.certainty) same ∙ y); search = record { stack = refl; mark = refl } })
merged_over Q h mode n a t xs i k z e w qs long over (Err error.NoSolution) (one_held x y p q left) merged never = (let none = never.0 refl in absurd (cc none))
merged_over Q h mode n a t xs i k z e w qs long over (Err error.Memory) (one_held x y p q left) merged never = record { answer = tt; search = tt }
merged_over Q h mode n a t xs i k z e w qs long over (Err error.Full) (one_held x y p q left) merged never = record { answer = tt; search = tt }

only_found : (P : Canonical Response → Type 0) {rs : List (Canonical Response)} → All P rs → (x : Canonical Response) → rs ≡ x ∷ [] → P x
only_found P {rs} all x e = (let f : All P (x ∷ []) = subst (All P) e all in f 0 x (omega arith))

pub all_merged : (h : Handler) (mode : TypingMode) (n : ℕ) (a : List Tree) (t : Table) (xs : List CandidateData) (i : ℕ) (k : Bool) {P : List Tree → Table → Type 0} (z e : List Tree) (w : Table) {g : SearchGraph} (goal : Goal) (qs : List GenericArg) {rs : List (Canonical Response)} → length xs ≤ i
    → AreRootValues a qs → trees_of z qs ≡ trees_of a qs → All (Found P a z t goal qs) rs → (r : Result (Box (Canonical Response)) EvalError) → AreSoFar Anything h mode n a t (drop i xs) k rs → IfAnswered r (IsMerged z e w qs rs) → (r ≡ Err error.NoSolution) ↔ (rs ≡ []) → AnswersCandidate k r g g
all_merged h mode n a t xs i k {P} z e w goal qs long roots trees found r so_far merged never =
    merged_over Anything h mode n a t xs i k z e w qs long (λ x is p applies. over_itself qs roots trees x (only_found (Found P a z t goal qs) found x is) applies.2) r so_far merged never

-- .. where one candidate without goals decides
pub facts_merged : (h : Handler) (mode : TypingMode) (a : List Tree) (t : Table) (xs : List CandidateData) (i : ℕ) (z e : List Tree) (w : Table) {g : SearchGraph} (qs : List GenericArg) {rs : List (Canonical Response)} → length xs ≤ i
    → trees_of z qs ≡ trees_of a qs → (r : Result (Box (Canonical Response)) EvalError) → AreSoFar (IsOverIfSilent z (trees_of a qs)) h mode 0 a t (drop i xs) true rs → IfAnswered r (IsMerged z e w qs rs) → (r ≡ Err error.NoSolution) ↔ (rs ≡ []) → AnswersCandidate true r g g
facts_merged h mode a t xs i z e w qs long trees r so_far merged never =
    merged_over (IsOverIfSilent z (trees_of a qs)) h mode 0 a t xs i true z e w qs long
    (λ x is over applies. (let o = over_back z qs x.var_kinds.items (subst (AreTermsOfKinds (map kind_of_var x.var_kinds.items)) (sym trees) (over z (Extends-refl z) applies)) in record { many = o.0; each = o.1 })) r so_far merged never
