-- A goal whose only clause asks for the goal itself is decided at no height, neither yes nor no.
use Rattle.std.proofs.Common.{◌≡◌, ℕ, List, [], ◌∷◌, true, false, refl, sym, ap, subst}
use Rattle.std.specs.Prelude.{Bool}
use Rattle.nts_model.specs.Terms.Trees.{Tree}
use Rattle.nts_model.specs.Derivations.Sequents.{impl_where_bound, Premise}
use Rattle.nts_model.specs.Derivations.Rules.{coherence}
use Rattle.nts_model.specs.Terms.Substitutions.{filled}
use Rattle.nts_model.specs.Derivations.Handlers.{Handler, never_leaks, never_at_once, no_judgements, Candidate, certain, never}
use Rattle.nts_decisions.specs.Deciding.{blurred, blurred_candidate, blurred_premise, MeetsBlurred, IsPlainGoal, IsRegionGoal, IsUniform, opened_next, IsDecided, by_candidates, by_region, by_judgement, by_own_way, IsJudgedGoal, IsOwnWayGoal, OneHolds, none_left, then_fails, then_holds, CandidateIs, is_unmet, is_met, GoalsAre, all_yes, one_yes, one_no}
use Rattle.nts_decisions.proofs.Deciding.{plain_or_region, plain_or_judged, plain_or_way}
use Rattle.nts_decisions.proofs.DecidingExamples.{list_goal, plain}
use Rattle.nts_theory.proofs.Examples.InputExamples.{no_clauses as nowhere}

-- impl T0(List) <- T0(List)
abbrev itself : Premise
itself = record { source = impl_where_bound; environment = nowhere; predicate = list_goal 0 }

abbrev by_itself : Candidate
by_itself = record { fresh = []; equations = []; constraints = []; hidden = []; goals = itself ∷ []; certainty = certain; accesses = never }

abbrev pub one_circle : Handler
one_circle = record { applies = λ mode a. ⊥; offers = λ mode e g. by_itself ∷ []; is_coinductive = λ i. false; leaks = never_leaks; judges = no_judgements; at_once = never_at_once }

meets_itself : MeetsBlurred (blurred_candidate by_itself) []
meets_itself = record { values = tt; equal = λ q i. absurd i }

only : (xs : List Candidate) → IsPlainGoal nowhere (list_goal 0) → IsUniform one_circle coherence nowhere (list_goal 0) xs → blurred_candidate by_itself ∷ [] ≡ xs
only xs p u = u.alike nowhere (list_goal 0) p.asked refl refl

first_is : (x : Candidate) (xs : List Candidate) → x ∷ xs ≡ blurred_candidate by_itself ∷ [] → x ≡ blurred_candidate by_itself
first_is x xs q = cc q

asked_again : (vs : List Tree) (p : Premise) (ps : List Premise) → p ∷ ps ≡ (let x = blurred_candidate by_itself in x.goals) → blurred (filled vs p.predicate) ≡ list_goal 0
asked_again vs p ps q = (let e : p ≡ blurred_premise itself = cc q in ap (λ z. blurred (filled vs z.predicate)) e)

mutual
  undecided : (g : Tree) (n : ℕ) (b : Bool) → g ≡ list_goal 0 → IsDecided one_circle coherence nowhere n g b → ⊥
  undecided g n b q (by_candidates xs p u o) = none_holds xs n b (sym (only xs (plain 0) (subst (λ z. IsUniform one_circle coherence nowhere (opened_next nowhere z) xs) q u))) o
  undecided g n b q (by_region y) = plain_or_region nowhere (list_goal 0) (plain 0) (subst (λ z. IsRegionGoal nowhere (opened_next nowhere z)) q y)
  undecided g n b q (by_judgement y) = plain_or_judged one_circle nowhere (list_goal 0) b (plain 0) (subst (λ z. IsJudgedGoal one_circle nowhere (opened_next nowhere z) b) q y)
  undecided g n b q (by_own_way x y c) = plain_or_way one_circle nowhere (list_goal 0) x (plain 0) (subst (λ z. IsOwnWayGoal one_circle nowhere (opened_next nowhere z) x) q y)

  none_holds : (xs : List Candidate) (n : ℕ) (b : Bool) → xs ≡ blurred_candidate by_itself ∷ [] → OneHolds one_circle coherence nowhere n xs b → ⊥
  none_holds xs n b q none_left = absurd (cc q)
  none_holds (x ∷ xs) n b q (then_fails {m = m} d r s) = neither x m false (first_is x xs q) d
  none_holds (x ∷ xs) n b q (then_holds {m = m} d r s) = neither x m true (first_is x xs q) d

  neither : (x : Candidate) (n : ℕ) (b : Bool) → x ≡ blurred_candidate by_itself → CandidateIs one_circle coherence nowhere n x b → ⊥
  neither x n b q (is_unmet u) = u [] (subst (λ z. MeetsBlurred z []) (sym q) meets_itself)
  neither x n b q (is_met vs i f gs) = no_goals x.goals vs n b (ap (λ z. z.goals) q) gs

  no_goals : (ps : List Premise) (vs : List Tree) (n : ℕ) (b : Bool) → ps ≡ (let x = blurred_candidate by_itself in x.goals) → GoalsAre one_circle coherence nowhere n vs ps b → ⊥
  no_goals ps vs n b q all_yes = absurd (cc q)
  no_goals (p ∷ ps) vs n b q (one_yes {m = m} d r s) = undecided (blurred (filled vs p.predicate)) m true (asked_again vs p ps q) d
  no_goals (p ∷ ps) vs n b q (one_no {m = m} d s) = undecided (blurred (filled vs p.predicate)) m false (asked_again vs p ps q) d

-- so it is decided at no height
pub circle_undecided : (n : ℕ) (b : Bool) → IsDecided one_circle coherence nowhere n (list_goal 0) b → ⊥
circle_undecided n b d = undecided (list_goal 0) n b refl d
