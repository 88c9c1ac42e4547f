-- The one way of a goal without variables is a candidate of constants.
use Rattle.std.proofs.Common.{◌≡◌, inl, inr, ℕ, [], ◌∷◌, sym, ap, subst}
use Rattle.nts_model.specs.Terms.Trees.{Tree, IsFormed}
use Rattle.nts_model.specs.Lists.{Among}
use Rattle.nts_model.specs.Tables.Contents.{Content}
use Rattle.nts_model.specs.Derivations.Related.{pair, value}
use Rattle.nts_model.specs.Derivations.Sequents.{Premise, misc}
use Rattle.nts_model.specs.Derivations.Rules.{Equation, related}
use Rattle.nts_model.specs.Derivations.Handlers.{Handler, Candidate, JudgementsAreKept}
use Rattle.nts_theory.specs.Affirming.{by_type, by_goals, has_type, is_well_formed, IsOwnWay}
use Rattle.nts_model.specs.Refutation.Choosing.{left_of, right_of}
use Rattle.nts_model.specs.Tables.Levels.{term_level, NamesAll}
use Rattle.nts_decisions.specs.Queries.{AreConstants, HasNoVariables}
use Rattle.nts_decisions.proofs.ConstantGoals.{no_variables, names_terms, over_constants}
use Rattle.nts_decisions.proofs.DecidingRenamed.{among_back}
use Rattle.nts_decisions.proofs.Faring.{IsConstantCandidate}

one_of : {A : Type 0} (x y : A) → Among (x ∷ []) y → y ≡ x
one_of x y (inl e) = e
one_of x y (inr i) = absurd i

abbrev posed_in : Tree → Tree → Premise
posed_in e p = record { source = misc; environment = e; predicate = p }

abbrev BothLack : Equation → Type 0
BothLack q = HasNoVariables (left_of q) × HasNoVariables (right_of q)

abbrev BothFormed : Equation → Type 0
BothFormed q = IsFormed (left_of q) × IsFormed (right_of q)

abbrev BothNamed : ℕ → Equation → Type 0
BothNamed u q = NamesAll term_level u (left_of q) × NamesAll term_level u (right_of q)

-- the parts of what is said of one term, and of a value and a type
of_value : (u b : ℕ) (a t : Tree) → AreConstants u (has_type (value b a) t) → AreConstants u a
of_value u b a t h l o = h l (inr (inl (inr (inl o))))

of_type : (u b : ℕ) (a t : Tree) → AreConstants u (has_type (value b a) t) → AreConstants u t
of_type u b a t h l o = h l (inr (inr (inl o)))

of_term : (u : ℕ) (e t : Tree) → AreConstants u (pair e (is_well_formed t)) → AreConstants u (pair e t)
of_term u e t h l (inl o) = h l (inl o)
of_term u e t h l (inr (inl o)) = h l (inr (inl (inr (inl o))))
of_term u e t h l (inr (inr o)) = absurd o

pub way_constants : (h : Handler) → JudgementsAreKept h → (c : Content) (e s : Tree) (x : Candidate) → AreConstants c.universe (pair e s) → IsFormed (pair e s) → IsOwnWay h.judges e s x → IsConstantCandidate c e x
way_constants h law c e s x k f (by_type {b = b} {u = a} {t = t}) =
    let u = c.universe in
    let says : AreConstants u (has_type (value b a) t) = λ l o. k l (inr (inl o)) in
    let left = of_value u b a t says in
    let right = of_type u b a t says in
    let ff : IsFormed (has_type (value b a) t) = f.1.0 in
    let fa : IsFormed a = ff.1.0.1.0 in
    let ft : IsFormed t = ff.1.1.0 in
    record {
      constants = record {
        equations = λ q i. subst (λ z. BothLack z) (sym (one_of (related a t) q i)) (no_variables u a left, no_variables u t right);
        formed = λ q i. subst (λ z. BothFormed z) (sym (one_of (related a t) q i)) (fa, ft);
        goals = λ p i. absurd i;
        goals_formed = λ p i. absurd i;
      };
      names = λ q i. subst (λ z. BothNamed u z) (sym (one_of (related a t) q i)) (names_terms u a left, names_terms u t right);
      environments = λ p i. absurd i;
    }
way_constants h law c e s x k f (by_goals {t = t} {ps = ps} q) =
    let u = c.universe in
    let here : AreConstants u (pair e t) = of_term u e t k in
    let ff : IsFormed (is_well_formed t) = f.1.0 in
    let formed : IsFormed (pair e t) = (f.0, (ff.1.0, tt)) in
    record {
      constants = record {
        equations = λ r i. absurd i;
        formed = λ r i. absurd i;
        goals = λ p i. (let r = among_back (posed_in e) ps p i in let w = law.goals e t ps r.of formed q r.found in subst (λ z. HasNoVariables z.predicate) (sym r.same) (no_variables u r.of (over_constants u [] e t r.of here w.0)));
        goals_formed = λ p i. (let r = among_back (posed_in e) ps p i in let w = law.goals e t ps r.of formed q r.found in let o = w.0 in subst (λ z. IsFormed z.predicate) (sym r.same) o.formed);
      };
      names = λ r i. absurd i;
      environments = λ p i. (let r = among_back (posed_in e) ps p i in ap (λ z. z.environment) r.same);
    }
