-- Candidates that were tried, one after the other.
use Rattle.std.proofs.Common.{◌≡◌, inl, inr, ℕ, ◌+◌, ◌<◌, List, [], ◌∷◌, ◌++◌, map, length, take, get_or, refl, sym, ap, ◌∙◌, subst, arith}
use Rattle.std.specs.Prelude.{All}
use Rattle.std.proofs.lemmas.List.{take_more, map-append, length-map}
use Rattle.nts_model.specs.declared.labels.Variance.{Variance}
use Rattle.nts_model.specs.Derivations.Rules.{Mode}
use Rattle.nts_model.specs.Terms.Trees.{Tree}
use Rattle.nts_model.specs.Tables.Contents.{Content}
use Rattle.nts_model.specs.Terms.Substitutions.{filled}
use Rattle.nts_model.specs.Derivations.Handlers.{Handler, premise_by}
use Rattle.nts_model.specs.Refutation.Choosing.{IsCandidateMet}
use Rattle.nts_certainty.specs.declared.sources.GoalSource.{GoalSource}
use Rattle.nts_store.specs.declared.nodes.NodeId.{NodeId}
use Rattle.nts_store.specs.Growth.{tree_at, Extends}
use Rattle.nts_unify.specs.Reading.{content_of}
use Rattle.nts_unify.specs.Lawful.{content_of-extended}
use Rattle.nts_table.specs.Tables.{Table, IsTable}
use Rattle.nts_terms.specs.declared.handles.Goal.{Goal}
use Rattle.nts_terms.specs.declared.modes.TypingMode.{TypingMode}
use Rattle.nts_candidates.specs.declared.data.CandidateData.{CandidateData}
use Rattle.nts_candidates.specs.declared.data.CandidateGoal.{CandidateGoal}
use Rattle.nts_delegate.specs.Candidates.{AreCandidates}
use Rattle.nts_candidates.specs.Offered.{candidate_of, candidates_of, premise_of}
use Rattle.nts_evaluation.specs.nts_response.specs.Forms.{premise_at}
use Rattle.nts_evaluation.specs.nts_meaning.proofs.Evaluating.{candidate_at, HoldsGoal-extended}
use Rattle.nts_evaluation.specs.nts_meaning.proofs.Running.{candidate-kept}
use Rattle.nts_evaluation.specs.nts_trying.specs.Adding.{AreAdded}
use Rattle.nts_evaluation.specs.nts_trying.specs.Opening.{IsOpenedTo, CannotOpen}
use Rattle.nts_explaining.specs.declared.conditions.Outcome.{Outcome}
use Rattle.nts_explaining.specs.declared.conditions.Outcome.TheVariants as outcome
use Rattle.nts_explaining.specs.Asking.{IsWithin, IsReasonOf}
use Rattle.nts_candidates.specs.declared.reasons.Reason.{Reason}
use Rattle.nts_candidates.specs.declared.reasons.Reason.TheVariants as reason
use Rattle.nts_explaining.specs.Explaining.{Explains, ExplainsPlainly, ExplainsEach, IsExplained, GivesReasons}
use Rattle.nts_candidates.specs.HeldReasons.{HoldsReason}
use Rattle.nts_explaining.specs.Explaining.ExplainsEach.{more}
use Rattle.nts_explaining.specs.Explaining.GivesReasons.{of_candidates, is_unasked, is_unopened}

-- a reason more, of the candidate that is next
pub each_more : {a b : List Tree} {t u : Table} (g : Goal) (xs : List CandidateData) (i : ℕ) (x : CandidateData) (rs new : List Reason) (r : Reason) → i < length xs → x ≡ get_or xs i x → Extends a b → IsTable a t → u ≡ t → AreCandidates a g xs → new ≡ rs ++ r ∷ []
    → (declared : ℕ → List Variance) (mode : Mode) (env : Tree) → Explains declared mode (content_of b u.entries) env (candidate_of b x) r → ExplainsEach declared mode (content_of a t.entries) env (candidates_of a (take i xs)) rs → ExplainsEach declared mode (content_of a t.entries) env (candidates_of a (take (i + 1) xs)) new
each_more {a} {b} {t} {u} g xs i x rs new r l is e w same all is_new declared mode env h before =
    let here : content_of b u.entries ≡ content_of a t.entries = ap (λ (z : Table). content_of b z.entries) same ∙ content_of-extended e w.now in
    let one = candidate_at a g xs i x all l in
    let kept : candidate_of b x ≡ candidate_of a x = candidate-kept {a = a} {b = b} {g = g} {d = x} e (rw is one) in
    let now : Explains declared mode (content_of a t.entries) env (candidate_of a x) r = subst (λ c. Explains declared mode c env (candidate_of a x) r) here (subst (λ y. Explains declared mode (content_of b u.entries) env y r) kept h) in
    let next : candidates_of a (take (i + 1) xs) ≡ candidates_of a (take i xs) ++ candidate_of a x ∷ [] = ap (map (candidate_of a)) (take_more xs i x l) ∙ map-append (candidate_of a) (take i xs) (get_or xs i x ∷ []) ∙ ap (λ y. candidates_of a (take i xs) ++ candidate_of a y ∷ []) (sym is) in
    subst (ExplainsEach declared mode (content_of a t.entries) env (candidates_of a (take (i + 1) xs))) (sym is_new) (subst (λ ys. ExplainsEach declared mode (content_of a t.entries) env ys (rs ++ r ∷ [])) (sym next) (more (candidate_of a x) r before now))

-- the reasons in a table with one more snapshot are those in the table
opened_before : {a b : List Tree} {t s u : Table} {g h : Goal} → s.entries ≡ t.entries → IsOpenedTo a b s u g h → IsOpenedTo a b t u g h
opened_before {a} {b} {t} {s} {u} {g} {h} e o =
    record {
      closed = o.closed;
      table = rw e at o.table;
      environment = o.environment;
      predicate = rw e at o.predicate;
    }

pub reasons_before : {h : Handler} {declared : ℕ → List Variance} {mode : TypingMode} {a : List Tree} {t s : Table} {g : Goal} {rs : List Reason} → s.entries ≡ t.entries → GivesReasons h declared mode a s g rs → GivesReasons h declared mode a t g rs
reasons_before e (of_candidates b u o opened asked each) = of_candidates b u o (opened_before e opened) asked each
reasons_before e (is_unasked b u o opened unasked) = is_unasked b u o (opened_before e opened) unasked
reasons_before e (is_unopened k) = is_unopened k

-- its goals are as many as it has
pub as_many : {a b : List Tree} {t : Table} {g : Goal} {vs : List NodeId} (hs : List CandidateGoal) (gs : List (GoalSource × Goal)) → AreAdded a b t g vs hs gs → length gs ≡ length hs
as_many {a} {b} {t} {g} {vs} hs gs h =
    sym (length-map gs (premise_at b)) ∙ ap length h.goals ∙ length-map (map (premise_of a) hs) (premise_by (filled (map (tree_at a) vs))) ∙ length-map hs (premise_of a)

-- what the outcome of its conditions says of it
pub explained : (a : List Tree) (c : Content) (x : CandidateData) (n : ℕ) (o : Outcome) (r : Reason) → IsCandidateMet c (candidate_of a x) → n ≡ length x.goals.items → IsWithin n o → IsReasonOf x.certainty o r → ExplainsPlainly c (candidate_of a x) r
explained a c x n outcome.Certain r met same l (inl e) = subst (ExplainsPlainly c (candidate_of a x)) (sym e) met
explained a c x n outcome.Certain r met same l (inr e) = subst (ExplainsPlainly c (candidate_of a x)) (sym e) (met, refl)
explained a c x n (outcome.Doubtful i y) r met same l (inl e) = subst (ExplainsPlainly c (candidate_of a x)) (sym e) met
explained a c x n (outcome.Doubtful i y) r met same l (inr (g, e)) = subst (ExplainsPlainly c (candidate_of a x)) (sym e) (met, omega (arith, l, same, length-map x.goals.items (premise_of a)))
explained a c x n (outcome.Refused i) r met same l (g, e) = subst (ExplainsPlainly c (candidate_of a x)) (sym e) (met, omega (arith, l, same, length-map x.goals.items (premise_of a)))

-- the conditions that reasons name, in a store that has grown
holds_later : {a b : List Tree} (r : Reason) → Extends a b → HoldsReason a r → HoldsReason b r
holds_later (reason.Condition n g y) e h = HoldsGoal-extended e h
holds_later (reason.Equation n) e h = tt
holds_later reason.Leak e h = tt
holds_later (reason.Holds y) e h = tt

pub all_later : {a b : List Tree} (rs : List Reason) → Extends a b → All (HoldsReason a) rs → All (HoldsReason b) rs
all_later rs e h = λ k d l. holds_later (get_or rs k d) e (h k d l)

-- where no candidate answers a goal there is no reason
pub unasked_reasons : {h : Handler} {declared : ℕ → List Variance} {mode : TypingMode} {a : List Tree} {t : Table} {g : Goal} (rs : List Reason) → rs ≡ [] → (b : List Tree) (u : Table) (o : Goal) → IsOpenedTo a b t u g o → (IsExplained b o → ⊥) → GivesReasons h declared mode a t g rs
unasked_reasons {h} {declared} {mode} {a} {t} {g} rs e b u o opened unasked = subst (GivesReasons h declared mode a t g) (sym e) (is_unasked b u o opened unasked)

pub unopened_reasons : {h : Handler} {declared : ℕ → List Variance} {mode : TypingMode} {a : List Tree} {t : Table} {g : Goal} (rs : List Reason) → rs ≡ [] → CannotOpen (tree_at a g.predicate.node) → GivesReasons h declared mode a t g rs
unopened_reasons {h} {declared} {mode} {a} {t} {g} rs e k = subst (GivesReasons h declared mode a t g) (sym e) (is_unopened k)
