-- A trait that holds of everything is decided no of nothing: so what is answered yes at once of it is not decided no.
use Rattle.std.proofs.Common.{◌≡◌, ℕ, suc, Bool, true, false, List, [], ◌∷◌, ◌++◌, map, refl, sym, ap, subst, ◌∙◌}
use Rattle.std.specs.Prelude.{if◌then◌else◌}
use Rattle.nts_model.specs.declared.labels.Sort.{Sort}
use Rattle.nts_model.specs.declared.labels.ClauseHead.TheVariants as clause
use Rattle.nts_model.specs.declared.labels.Leaf.{Leaf}
use Rattle.nts_model.specs.declared.labels.Label.TheVariants as label
use Rattle.nts_model.specs.Terms.Trees.{Tree, node}
use Rattle.nts_model.specs.Derivations.Related.{pair, unbound}
use Rattle.nts_model.specs.Derivations.Rules.{Mode, statement_of, opened}
use Rattle.nts_model.specs.Derivations.Handlers.{Handler, Judgements, Candidate, certain}
use Rattle.nts_model.specs.Refutation.Opening.{binds, placeholder_in}
use Rattle.nts_decisions.specs.Deciding.{blurred, blurred_leaf, blurred_environment, blurred_candidate, MeetsBlurred, top_level, opened_next, OneHolds, then_fails, then_holds, CandidateIs, is_unmet, is_met, GoalsAre, all_yes, IsFairAtOnce}
use Rattle.nts_theory.specs.Affirming.{IsDenied}
use Rattle.nts_decisions.proofs.Deciding.{DecidedBy, DecidedByRegion, DecidedByJudgement, DecidedByWay, DecidedAs, as_offered, as_of_region, as_judged, as_its_way, decided_by, judged_itself, way_said}
use Rattle.nts_decisions.proofs.OwnWays.{says_way}
use Rattle.nts_marker.specs.Marking.{is_of, marks, fact}
use Rattle.nts_marker.specs.MarkerLaws.{marks_kept}
use Rattle.nts_marker.specs.Answering.{answering}

-- the first of the candidates fails, where all do
module _ (h : Handler) (mode : Mode) (e : Tree) where
  first_fails : (n : ℕ) (c : Candidate) (cs : List Candidate) (b : Bool) → b ≡ false → OneHolds h mode e n (c ∷ cs) b → (m : ℕ) × CandidateIs h mode e m c false
  first_fails n c cs b q (then_fails {m = m} x r s) = (m, x)
  first_fails n c cs b q (then_holds x r s) = absurd (let clash : ⊥ = cc q in clash)

  no_goals : (n : ℕ) (vs : List Tree) (b : Bool) → GoalsAre h mode e n vs [] b → b ≡ true
  no_goals n vs b all_yes = refl

  -- one that asks for nothing does not
  never_fails : (n : ℕ) (b : Bool) → b ≡ false → CandidateIs h mode e n (fact certain) b → ⊥
  never_fails n b q (is_unmet u) = u [] (record { values = tt; equal = λ p i. absurd i })
  never_fails n b q (is_met vs i f gs) = (let y = no_goals n vs b gs in let clash : ⊥ = cc (q, y) in clash)

-- a goal of the trait is one of it once it is opened
opened_of : (i : ℕ) (f : Sort → ℕ → Leaf) (s : Tree) → is_of i s ≡ true → is_of i (opened f 0 s) ≡ true
opened_of i f (node (label.Clause (clause.Trait j)) ts) q = q
opened_of i f s q = absurd (let clash : ⊥ = cc q in clash)

opened_marked : (i : ℕ) (e g : Tree) → marks i g ≡ true → marks i (opened_next e g) ≡ true
opened_marked i e g q = by_bool (binds g) refl
  where
    by_bool : (b : Bool) → binds g ≡ b → marks i (opened_next e g) ≡ true
    by_bool false z = (let o : opened_next e g ≡ g = rw z refl in ap (marks i) o ∙ q)
    by_bool true z =
        (let f = placeholder_in (suc (top_level (pair e g))) in
        let o : opened_next e g ≡ blurred (unbound (opened f 0 (statement_of g))) = rw z refl in
        ap (marks i) o ∙ marks_kept i blurred_leaf (unbound (opened f 0 (statement_of g))) (opened_of i f (statement_of g) q))

offered_first : (b : Bool) (cs : List Candidate) → b ≡ true → map blurred_candidate ((if b then fact certain ∷ [] else []) ++ cs) ≡ fact certain ∷ map blurred_candidate cs
offered_first true cs q = refl
offered_first false cs q = absurd (let clash : ⊥ = cc q in clash)

-- no goal of the trait is denied
not_denied : (i : ℕ) (j : Judgements) (s : Tree) → IsDenied j s → is_of i s ≡ true → ⊥
not_denied i j s d q = (let clash : false ≡ true = sym (ap (is_of i) d.is) ∙ q in cc clash)

-- nor has one a way of the engine's own
no_way : (i : ℕ) (s : Tree) → is_of i s ≡ true → says_way s → ⊥
no_way i (node (label.Clause clause.ConstArgHasType) ts) q w = (let clash : ⊥ = cc q in clash)
no_way i (node (label.Clause clause.WellFormed) ts) q w = (let clash : ⊥ = cc q in clash)
no_way i s q w = absurd w

pub IsFairAtOnce-answering : (i : ℕ) (h : Handler) → IsFairAtOnce (answering i h)
IsFairAtOnce-answering i h mode n e g d x = by_any (decided_by k mode env (blurred g) n false d)
  where
    k : Handler
    k = answering i h

    env : Tree
    env = blurred_environment e

    o : Tree
    o = opened_next env (blurred g)

    marked : marks i o ≡ true
    marked = opened_marked i env (blurred g) (marks_kept i blurred_leaf g x.marked)

    by_candidates : DecidedBy k mode env n (blurred g) false → ⊥
    by_candidates y =
        let p = y.plain in
        let u = y.uniform in
        let is : y.candidates ≡ fact certain ∷ map blurred_candidate (h.offers mode env o) = sym (u.alike env o p.asked p.blurred_environment p.blurred) ∙ offered_first (marks i o) (h.offers mode env o) marked in
        let fails = first_fails k mode env n (fact certain) (map blurred_candidate (h.offers mode env o)) false refl (subst (λ cs. OneHolds k mode env n cs false) is y.holds) in
        never_fails k mode env fails.0 false refl fails.1

    by_region : DecidedByRegion k mode env n (blurred g) false → ⊥
    by_region y = (let clash : ⊥ = cc y.yes in clash)

    by_judgement : DecidedByJudgement k mode env n (blurred g) false → ⊥
    by_judgement y =
        let z = y.judged in
        not_denied i k.judges z.statement (judged_itself k env o false z) (ap (λ t. is_of i (statement_of t)) (sym z.binds_nothing) ∙ marked)

    by_way : DecidedByWay k mode env n (blurred g) false → ⊥
    by_way y =
        let z = y.has_way in
        no_way i z.statement (ap (λ t. is_of i (statement_of t)) (sym z.binds_nothing) ∙ marked) (way_said k env o y.candidate z)

    by_any : DecidedAs k mode env n (blurred g) false → ⊥
    by_any (as_offered y) = by_candidates y
    by_any (as_of_region y) = by_region y
    by_any (as_judged y) = by_judgement y
    by_any (as_its_way y) = by_way y
