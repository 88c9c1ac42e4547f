-- A goal is proved by a certain candidate whose equations with aliases were related, where the goals that this left and the candidate's own
-- are proved as they stand.
use Rattle.std.proofs.Common.{◌≡◌, ◌⊎◌, inl, inr, ⊎_elim, ℕ, List, [], ◌∷◌, refl, sym, ap, ◌∙◌, subst}
use Rattle.std.specs.Prelude.{map}
use Rattle.nts_model.specs.declared.labels.Variance.{Variance}
use Rattle.nts_model.specs.Terms.Trees.{Tree, empty, more, any_label, is_canonical}
use Rattle.nts_model.specs.Tables.Contents.{Content}
use Rattle.nts_model.specs.Tables.Resolving.{deeply_resolved, IsSound}
use Rattle.nts_model.specs.Terms.Substitutions.{filled, instance_of}
use Rattle.nts_model.specs.declared.labels.Variance.TheVariants as variance
use Rattle.nts_model.specs.declared.labels.AliasRelationDirection.TheVariants as direction
use Rattle.nts_model.specs.declared.labels.PredicateHead.TheVariants as predicate
use Rattle.nts_model.specs.Derivations.Related.{Constraint, unbound, alias_goal}
use Rattle.nts_model.specs.Lists.{Among}
use Rattle.nts_model.specs.Derivations.Sequents.{Premise, type_relating, normalize_goal, Grants, Hides}
use Rattle.nts_model.specs.Derivations.Rules.{Mode, Equation, related, alike, GoalKind, goal_kind, step_kind, proof_kind, Stands, relating, choice, statement_of, IsApplied}
use Rattle.nts_model.specs.Derivations.Proofs.{Assumed, passed}
use Rattle.nts_model.specs.Derivations.Handlers.{Handler, meaning, Candidate, certain, premise_by, IsAsked, IsCandidateFor, IsHandlersSource, IsLawfulHandler}
use Rattle.nts_model.specs.Derivations.Proving.{HoldsTerms, IsTermOf, AreConstraintsOf, HoldsEquationAt, HoldsButForGoals, read_constraints, sequent_at}
use Rattle.nts_model.specs.Searching.Stacks.{IsProvedFrom}
use Rattle.nts_theory.specs.RelatingCandidates.{HoldsEquationFrom, HoldsByRelating, IsProvedPut}
use Rattle.nts_model.proofs.Tables.ResolvedTerms.{IsFormed-deeply_resolved}
use Rattle.nts_model.proofs.Tables.TableInstances.{reading_of}
use Rattle.nts_model.proofs.Tables.Open.{Knows-deeply_resolved}
use Rattle.nts_model.proofs.Terms.Unpositioned.{or_false, filled-none, IsFormedTerm, formed_term, known_no_positions, known_well_bound}
use Rattle.nts_theory.proofs.Derivations.Served.{IsClosedEnvironment, keeps_or_not}
use Rattle.nts_theory.proofs.Derivations.Relating.{Chooses, chooses_grows, chooses_itself}
use Rattle.nts_theory.proofs.Derivations.ByCandidate.{formed_here, closed_here, among_mapped, read_filled, read_itself, equates_grows, equation_follows}
use Rattle.nts_theory.proofs.Derivations.FromCandidate.{steps_passed, choice_passed}
use Rattle.nts_theory.proofs.Derivations.Owing.{IsServedFrom, OwesFrom, from_then, from_both, owes_from}
use Rattle.nts_theory.proofs.Aliases.ChosenValues.{added_stands}
use Rattle.nts_theory.proofs.Aliases.ByRelating.{resolved_about}
use Rattle.nts_theory.proofs.Aliases.Loose.{loose_resolved}
use Rattle.nts_theory.proofs.Aliases.ByParts.{bare, bare_holds, read, kind_here, at_goal, own_open, EquatesAt, StandsAt, EquatesAll, StandAll, parts_follow, parts_apply, kind_is, met_follows, related_equates, by_parts}

module _ (h : Handler) (V : ℕ → List Variance) (mode : Mode) (A : List Assumed) (c : Content) (s : IsSound c) (t : HoldsTerms c) (k : AreConstraintsOf c) (e g : Tree)
    (asked : IsAsked e g) (ke : IsTermOf c e) (kg : IsTermOf c g) (d : Candidate) (x : HoldsByRelating (meaning h V) mode A c e g d) where
  abbrev pub z : GoalKind
  z = goal_kind (meaning h V) g

  abbrev pub e' : Tree
  e' = deeply_resolved c e

  abbrev pub cs : List Constraint
  cs = read_constraints c c.constraints

  abbrev pub no_terms : (o : Premise) → Among [] o → IsTermOf c o.environment × IsTermOf c o.predicate
  no_terms o i = absurd i

  abbrev pub here : GoalKind
  here = kind_here h V mode A c s t k e g asked ke kg d x.chosen x.values x.known x.constraints [] no_terms

  abbrev pub at : Premise → List Assumed
  at = at_goal h V mode A c s t k e g asked ke kg d x.chosen x.values x.known x.constraints [] no_terms

  abbrev pub own : Premise → Type 0
  own = own_open h V mode A c s t k e g asked ke kg d x.chosen x.values x.known x.constraints [] no_terms

  abbrev pub Owed : ((Premise → Type 0) → Type 0) → Type 0
  Owed = OwesFrom (meaning h V) mode e' cs at own

  abbrev b : Candidate
  b = bare h V mode A c s t k e g asked ke kg d x.chosen x.values x.known x.constraints [] no_terms

  known_term : (u : Tree) → IsTermOf c u → IsFormedTerm (deeply_resolved c u)
  known_term u q =
      let known = Knows-deeply_resolved c u s q.knows in
      formed_term (deeply_resolved c u) (IsFormed-deeply_resolved c u s t q.knows q.formed) (known_no_positions c (deeply_resolved c u) known) (known_well_bound c (deeply_resolved c u) known)

  -- a goal that is proved stands, as it is or with each of its aliases for itself
  stands : (q : Premise) → q.environment ≡ e → IsTermOf c q.predicate → passed (step_kind z q.source) A ≡ passed (proof_kind z q.source) A
      → IsProvedFrom (meaning h V) mode (passed (step_kind z q.source) A) c q.environment q.predicate → Owed (λ P. Stands (λ y. Unit {0}) P here (premise_by (deeply_resolved c) q))
  stands q same term counts proved =
      let m = meaning h V in
      let bh = bare_holds h V mode A c s t k e g asked ke kg d x.chosen x.values x.known x.constraints [] no_terms in
      let fe = formed_here h V mode c s t k e g asked ke kg b bh in
      let ce = closed_here h V mode c s t k e g asked ke kg b bh in
      let ri = read_itself c s t k in
      let r : Premise = premise_by (deeply_resolved c) q in
      let env : r.environment ≡ e' = ap (deeply_resolved c) same in
      let met : Owed (λ P. P r) = met_follows h V mode A c s t k e g asked ke kg d x.chosen x.values x.known x.constraints [] no_terms q counts (inl proved) in
      ⊎_elim
      (λ keeps. from_then m mode e' cs at own (λ P. P r) (λ P. Stands (λ y. Unit {0}) P here r) (λ P w. inl (keeps, w)) met)
      (λ loose. from_then m mode e' cs at own (λ P. P r × Chooses m mode e' cs fe ce ri here r r.predicate P) (λ P. Stands (λ y. Unit {0}) P here r) (λ P w. inr (loose, (r.predicate, w.1, w.0)))
      (from_both m mode e' cs at own (λ P. P r) (Chooses m mode e' cs fe ce ri here r r.predicate) (λ P Q f w. f r w) (chooses_grows m mode e' cs fe ce ri here r r.predicate)
      met
      (owes_from m mode e' cs at own (Chooses m mode e' cs fe ce ri here r r.predicate) (chooses_grows m mode e' cs fe ce ri here r r.predicate) (chooses_itself m mode e' cs fe ce ri here r r.predicate env (known_term q.predicate term)))))
      (keeps_or_not (statement_of r.predicate))

  -- .. and so does one that is proved with terms in the places of its aliases
  stands_put : (q : Premise) → q.environment ≡ e → IsHandlersSource q.source → IsProvedPut (meaning h V) mode A c z q → Owed (λ P. Stands (λ y. Unit {0}) P here (premise_by (deeply_resolved c) q))
  stands_put q same handlers y =
      let m = meaning h V in
      let bh = bare_holds h V mode A c s t k e g asked ke kg d x.chosen x.values x.known x.constraints [] no_terms in
      let fe = formed_here h V mode c s t k e g asked ke kg b bh in
      let ce = closed_here h V mode c s t k e g asked ke kg b bh in
      let same_kind : here ≡ z = kind_is h V mode A c s t k e g asked ke kg d x.chosen x.values x.known x.constraints [] no_terms in
      subst (λ w. Owed (λ P. Stands (λ v. Unit {0}) P w (premise_by (deeply_resolved c) q))) (sym same_kind)
      (added_stands m mode c s t k e' fe ce at own z (premise_by (deeply_resolved c) q) q.predicate y.goal (ap (deeply_resolved c) same) refl (loose_resolved c q.predicate y.says) y.predicate
      (λ a v. IsTermOf c v × IsProvedFrom m mode (passed (step_kind z (let p = choice z q a v in p.source)) A) c q.environment (alias_goal variance.Invariant a v)) (λ a v i w. (w.0, chosen_met a v w.1)) y.replaced
      (met_follows h V mode A c s t k e g asked ke kg d x.chosen x.values x.known x.constraints [] no_terms (record q { predicate = y.goal }) (steps_passed z q.source A handlers) (inl y.proved)))
    where
      chosen_met : (a v : Tree) → IsProvedFrom (meaning h V) mode (passed (step_kind z (let p = choice z q a v in p.source)) A) c q.environment (alias_goal variance.Invariant a v) → Owed (λ P. P (choice z (premise_by (deeply_resolved c) q) (deeply_resolved c a) (deeply_resolved c v)))
      chosen_met a v w =
          subst (λ u. Owed (λ P. P (record { source = normalize_goal (step_kind z q.source); environment = deeply_resolved c q.environment; predicate = u }))) (resolved_about c (predicate.AliasRelate direction.Equate) a v)
          (met_follows h V mode A c s t k e g asked ke kg d x.chosen x.values x.known x.constraints [] no_terms (choice z q a v) (choice_passed z q.source A handlers) (inl w))

  -- the candidate with one equation whose sides are one
  module _ (q : Equation) (w : HoldsEquationAt c x.chosen q) where
    abbrev one : Candidate
    one = record d { equations = q ∷ []; goals = [] }

    only : (y : Equation) → Among (q ∷ []) y → HoldsEquationAt c x.chosen y
    only y (inl same) = subst (HoldsEquationAt c x.chosen) (sym same) w
    only y (inr i) = absurd i

    one_holds : HoldsButForGoals c one
    one_holds = record { chosen = x.chosen; values = x.values; known = x.known; equations = only; constraints = x.constraints }

    equal_follows : Owed (EquatesAt h V mode A c s t k e g asked ke kg d x.chosen x.values x.known x.constraints [] no_terms q)
    unfolding one_holds
    equal_follows =
        owes_from (meaning h V) mode e' cs at own (EquatesAt h V mode A c s t k e g asked ke kg d x.chosen x.values x.known x.constraints [] no_terms q)
        (equates_grows h V mode c s t k e g asked ke kg one one_holds here q) (equation_follows h V mode c s t k e g asked ke kg one one_holds here q (inl refl))

  equation : (q : Equation) → Among d.equations q → Owed (EquatesAt h V mode A c s t k e g asked ke kg d x.chosen x.values x.known x.constraints [] no_terms q)
  equation (alike a b) i = equal_follows (alike a b) (x.equations (alike a b) i)
  equation (related a b) i = by_case (x.equations (related a b) i)
    where
      by_case : HoldsEquationFrom (meaning h V) mode A c e x.chosen (related a b) → Owed (EquatesAt h V mode A c s t k e g asked ke kg d x.chosen x.values x.known x.constraints [] no_terms (related a b))
      by_case (inl w) = equal_follows (related a b) w
      by_case (inr y) =
          related_equates h V mode A c s t k e g asked ke kg d x.chosen x.values x.known x.constraints [] no_terms a b (map (deeply_resolved c) y.goals) y.left y.right
          (λ w j.
          let (p, l, same) = among_mapped (deeply_resolved c) y.goals w j in
          let one = y.proved p l in
          subst (λ u. Owed (λ P. Stands (λ v. Unit {0}) P here (relating e' u))) (sym same) (stands (relating e p) refl one.0 (steps_passed z type_relating A tt) one.1))
          y.related

  goal : IsCandidateFor e g d → (q : Premise) → Among d.goals q → Owed (StandsAt h V mode A c s t k e g asked ke kg d x.chosen x.values x.known x.constraints [] no_terms q)
  goal keeps q i =
      let bh = bare_holds h V mode A c s t k e g asked ke kg d x.chosen x.values x.known x.constraints [] no_terms in
      let nested = keeps.goals q i in
      let none = or_false (any_label is_canonical e) (any_label is_canonical (more g empty)) asked.no_positions in
      let stays : filled x.chosen q.environment ≡ e = ap (filled x.chosen) nested.environment ∙ filled-none x.chosen e none.0 in
      let p : Premise = premise_by (filled x.chosen) q in
      let same : IsTermOf c p.environment → IsTermOf c p.predicate → premise_by (read h V mode A c s t k e g asked ke kg d x.chosen x.values x.known x.constraints [] no_terms) q ≡ premise_by (deeply_resolved c) p =
      λ te tp. (let env = read_filled h V mode c s t k e g asked ke kg b bh q.environment te in
      let pred = read_filled h V mode c s t k e g asked ke kg b bh q.predicate tp in
      λ j. record { source = q.source; environment = env j; predicate = pred j }) in
      elim (x.goals q i) [
        | inl y ↦ subst (λ w. Owed (λ P. Stands (λ v. Unit {0}) P here w)) (sym (same y.environment y.predicate)) (stands p stays y.predicate (steps_passed z q.source A nested.source) y.proved)
        | inr y ↦ subst (λ w. Owed (λ P. Stands (λ v. Unit {0}) P here w)) (sym (same y.environment y.predicate)) (stands_put p stays nested.source y)
      ]

  all_parts : IsCandidateFor e g d → Owed (λ P. EquatesAll h V mode A c s t k e g asked ke kg d x.chosen x.values x.known x.constraints [] no_terms P × StandAll h V mode A c s t k e g asked ke kg d x.chosen x.values x.known x.constraints [] no_terms P)
  all_parts keeps = parts_follow h V mode A c s t k e g asked ke kg d x.chosen x.values x.known x.constraints [] no_terms equation (goal keeps)

  pub by_relating : IsLawfulHandler h → Among (h.offers mode e g) d → d.certainty ≡ certain → IsProvedFrom (meaning h V) mode A c e g
  by_relating law offered sure =
      let keep = law.keep in
      let keeps = keep.each mode e g d asked offered in
      by_parts h V mode A c s t k e g asked ke kg d x.chosen x.values x.known x.constraints [] no_terms law.rules keeps offered sure (all_parts keeps)

  -- .. as a rule for what the goal says under the table, from premises that are served
  pub record AppliesRelating : Type 0 where
    pub premises : List Premise
    pub served : (q : Premise) → Among premises q → IsServedFrom (meaning h V) mode e' cs (at q) (Among premises) q
    pub applies : IsApplied (meaning h V) mode (λ y. Unit {0}) (Grants (sequent_at c e g)) (Hides (sequent_at c e g)) (Stands (λ y. Unit {0}) (λ q. Among premises q ⊎ own q) here) e' (unbound (instance_of (reading_of c s t) asked.statement))

  pub applies_relating : IsLawfulHandler h → Among (h.offers mode e g) d → d.certainty ≡ certain → AppliesRelating
  applies_relating law offered sure =
      let keep = law.keep in
      let keeps = keep.each mode e g d asked offered in
      let o = all_parts keeps in
      let both = o.holds in
      record { premises = o.premises; served = o.served; applies = parts_apply h V mode A c s t k e g asked ke kg d x.chosen x.values x.known x.constraints [] no_terms law.rules keeps offered sure (λ q. Among o.premises q ⊎ own q) both.0 both.1 }

  pub closed_environment : IsClosedEnvironment e'
  closed_environment = closed_here h V mode c s t k e g asked ke kg b (bare_holds h V mode A c s t k e g asked ke kg d x.chosen x.values x.known x.constraints [] no_terms)
