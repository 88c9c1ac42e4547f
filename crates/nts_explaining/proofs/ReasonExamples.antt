-- What reasons say of candidates: what meets the definitions, and what does not.
use Rattle.std.proofs.Common.{◌≡◌, ◌+◌, inl, refl, sym, ap, arith, ℕ, List, [], ◌∷◌, length, length-append}
use Rattle.std.proofs.Common.{inr, subst}
use Rattle.nts_model.specs.declared.labels.Variance.{Variance}
use Rattle.nts_model.specs.declared.labels.AliasRelationDirection.{AliasRelationDirection}
use Rattle.nts_model.specs.Terms.Trees.{Tree}
use Rattle.nts_model.specs.Tables.Contents.{Content}
use Rattle.nts_model.specs.Derivations.Rules.{Mode, Equation, coherence}
use Rattle.nts_model.specs.Derivations.Handlers.{Candidate, certain}
use Rattle.nts_model.specs.Refutation.Choosing.{IsCandidateMet}
use Rattle.nts_theory.specs.Aliasing.{alias_relation}
use Rattle.nts_theory.specs.RelatingCandidates.{HasPlainEquations}
use Rattle.nts_theory.proofs.Refutation.PlainParts.{plain_is}
use Rattle.nts_certainty.specs.Certainties.{ambiguous}
use Rattle.nts_certainty.specs.declared.certainty.Certainty.TheVariants as certainty
use Rattle.nts_certainty.specs.declared.certainty.MaybeInfo.{MaybeInfo}
use Rattle.nts_certainty.specs.declared.certainty.Certainty.{Certainty}
use Rattle.nts_terms.specs.declared.handles.Goal.{Goal}
use Rattle.std.specs.Prelude.{Option}
use Rattle.nts_delegate.specs.Relevant.{IsIrrelevant}
use Rattle.nts_evaluation.specs.nts_trying.proofs.LeftOut.{unmet}
use Rattle.nts_candidates.specs.declared.reasons.Reason.{Reason}
use Rattle.nts_candidates.specs.declared.reasons.Reason.TheVariants as reason
use Rattle.nts_store.specs.Growth.{tree_at}
use Rattle.nts_evaluation.specs.nts_meaning.specs.Evaluation.{IsAskedGoal}
use Rattle.nts_explaining.specs.Explaining.{ExplainsPlainly, ExplainsRelated, ExplainsEach, CannotBegin, StopsAtRelating, IsExplained, first_part}
use Rattle.nts_explaining.proofs.ToldGoals.{asked_explained, relates_no_trait}
use Rattle.nts_explaining.specs.Explaining.ExplainsEach.{none, more}

abbrev asking : Candidate → List Equation → Candidate
asking x qs = record x { equations = qs }

-- one equation between types that are built differently stops a candidate, and none that is met
apart_stops : (c : Content) (x : Candidate) (q : Equation) → IsIrrelevant (asking x (q ∷ [])) → ExplainsPlainly c (asking x (q ∷ [])) (reason.Equation 0)
apart_stops c x q i = record { within = λ some. some; before = inl refl; unmet = unmet c (asking x (q ∷ [])) i }

met_does_not_stop : (c : Content) (x : Candidate) (q : Equation) → IsCandidateMet c (asking x (q ∷ [])) → ExplainsPlainly c (asking x (q ∷ [])) (reason.Equation 0) → ⊥
met_does_not_stop c x q m s = s.unmet m

-- a certain candidate does not hold in doubt, and one without conditions has none in the way
sure_is_not_in_doubt : (c : Content) (x : Candidate) (i : MaybeInfo) → x.certainty ≡ certain → ExplainsPlainly c x (reason.Holds (certainty.Maybe i)) → ⊥
sure_is_not_in_doubt c x i sure h = cc (sure, h.1)

no_condition : (c : Content) (x : Candidate) (n : ℕ) (g : Goal) (y : Option Certainty) → x.goals ≡ [] → ExplainsPlainly c x (reason.Condition n g y) → ⊥
no_condition c x n g y empty h = (let l = ap length empty in let b = h.1 in omega (arith, l, b))

-- no candidates have no reasons, and one has one
none_explained : (declared : ℕ → List Variance) (mode : Mode) (c : Content) (env : Tree) → ExplainsEach declared mode c env [] []
none_explained declared mode c env = none

each_has_one : {declared : ℕ → List Variance} {mode : Mode} {c : Content} {env : Tree} (xs : List Candidate) (rs : List Reason) → ExplainsEach declared mode c env xs rs → length xs ≡ length rs
each_has_one xs rs none = refl
each_has_one xs rs (more {xs = ys} {rs = ss} x r e h) = (let same = each_has_one ys ss e in omega (arith, same, length-append ys (x ∷ []), length-append ss (r ∷ [])))

-- reasons are told of what the handler's candidates answer, and of no goal that says something else than that a trait holds
asked_is_explained : (ts : List Tree) (g : Goal) → IsAskedGoal ts g → IsExplained ts g
asked_is_explained ts g h = asked_explained ts g g refl h

relation_is_not_explained : (ts : List Tree) (g : Goal) (d : AliasRelationDirection) (a b : Tree) → tree_at ts g.predicate.node ≡ alias_relation d a b → IsExplained ts g → ⊥
relation_is_not_explained ts g d a b e h = relates_no_trait d (tree_at ts g.predicate.node) a b e h.statement

-- a candidate with aliases in an equation is in doubt in coherence alone, where it is not begun
doubt_in_coherence : (declared : ℕ → List Variance) (c : Content) (env : Tree) (x : Candidate) → ExplainsRelated declared coherence c env x (reason.Holds ambiguous)
doubt_in_coherence declared c env x = inr (refl, refl)

no_other_doubt : (declared : ℕ → List Variance) (c : Content) (env : Tree) (x : Candidate) → x.certainty ≡ certain → (mode : Mode) → (mode ≡ coherence → ⊥) → ExplainsRelated declared mode c env x (reason.Holds ambiguous) → ⊥
no_other_doubt declared c env x sure mode outside (inl (w, e)) = cc (sure, e)
no_other_doubt declared c env x sure mode outside (inr (inside, e)) = outside inside

-- without equations it is begun, so nothing stops it
nothing_stops : (declared : ℕ → List Variance) (c : Content) (x : Candidate) → HasPlainEquations x → IsCandidateMet c x → CannotBegin declared c x → ⊥
nothing_stops declared c x plain met (inl unmet) = unmet (subst (IsCandidateMet c) (sym (plain_is x plain)) met)
nothing_stops declared c x plain met (inr u) = u.some plain

-- the first equation stops it if it can't be begun with it, and no equation with which it is begun does
first_stops : (declared : ℕ → List Variance) (c : Content) (env : Tree) (x : Candidate) → CannotBegin declared c (first_part 1 x) → StopsAtRelating declared 0 c env x
first_stops declared c env x h = record { within = λ some. some; before = inl refl; unbegun = h }

begun_does_not_stop : (declared : ℕ → List Variance) (c : Content) (env : Tree) (x : Candidate) (n : ℕ) → HasPlainEquations (first_part (n + 1) x) → IsCandidateMet c (first_part (n + 1) x) → StopsAtRelating declared n c env x → ⊥
begun_does_not_stop declared c env x n plain met s = nothing_stops declared c (first_part (n + 1) x) plain met s.unbegun
