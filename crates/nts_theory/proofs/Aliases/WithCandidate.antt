-- A goal is proved by one certain candidate: what is known of it when its goals were evaluated.
use Rattle.std.proofs.Common.{◌≡◌, ◌⊎◌, inl, inr, ℕ, List, refl, sym, ap, ◌∙◌, subst}
use Rattle.std.specs.Prelude.{map}
use Rattle.nts_model.specs.declared.labels.Variance.{Variance}
use Rattle.nts_model.specs.declared.labels.Variance.TheVariants as variance
use Rattle.nts_model.specs.Terms.Trees.{Tree}
use Rattle.nts_model.specs.Tables.Contents.{Content}
use Rattle.nts_model.specs.Tables.Resolving.{deeply_resolved, Knows, IsSound}
use Rattle.nts_model.specs.Terms.Substitutions.{instance_of, filled}
use Rattle.nts_model.specs.Derivations.Related.{Constraint, unbound}
use Rattle.nts_model.specs.Lists.{Among}
use Rattle.nts_model.specs.Derivations.Sequents.{Premise, Grants, Hides}
use Rattle.nts_model.specs.Derivations.Rules.{Mode, Equation, related, alike, GoalKind, goal_kind, step_kind, proof_kind, Stands, IsApplied}
use Rattle.nts_model.specs.Derivations.Proofs.{Assumed, passed, IsNormalization}
use Rattle.nts_model.specs.Derivations.Handlers.{Handler, meaning, Candidate, certain, premise_by, AreValuesOf, IsAsked, IsCandidateFor}
use Rattle.nts_model.specs.Derivations.Proving.{HoldsTerms, IsTermOf, AreConstraintsOf, read_constraints, sequent_at, IsHeldAt}
use Rattle.nts_model.specs.Searching.Stacks.{IsProvedFrom, IsProvedWith}
use Rattle.nts_variance_model.specs.Variances.AnsweredGoals.{RelatedUnder}
use Rattle.nts_model.proofs.Tables.TableInstances.{reading_of}
use Rattle.nts_theory.proofs.Derivations.ByCandidate.{among_mapped, read_filled}
use Rattle.nts_theory.proofs.Derivations.Owing.{IsServedFrom, OwesFrom, from_then}
use Rattle.nts_model.specs.declared.labels.AliasRelationDirection.TheVariants as direction
use Rattle.nts_model.specs.declared.labels.PredicateHead.TheVariants as predicate
use Rattle.nts_model.specs.Terms.Trees.{empty, more, any_label, is_canonical, IsFormed}
use Rattle.nts_model.specs.Tables.Alike.{Alike}
use Rattle.nts_model.specs.Derivations.Sequents.{normalize_goal}
use Rattle.nts_model.specs.Derivations.Rules.{choice, relating, KeepsAliases, statement_of, Replaced}
use Rattle.nts_model.specs.Derivations.Handlers.{IsLawfulHandler}
use Rattle.nts_model.specs.Derivations.Proving.{AreEquated}
use Rattle.nts_model.proofs.Tables.Resolved.{deeply_resolved-deeply_resolved}
use Rattle.nts_model.proofs.Terms.Unpositioned.{or_false, filled-none}
use Rattle.nts_theory.proofs.Derivations.Served.{IsClosedEnvironment}
use Rattle.nts_theory.proofs.Derivations.ByCandidate.{GrantsEqual, alike_granted, formed_here, closed_here}
use Rattle.nts_theory.proofs.Aliases.ChosenValues.{added_stands}
use Rattle.nts_theory.proofs.Aliases.ByRelating.{resolved_about}
use Rattle.nts_theory.proofs.Derivations.Owing.{from_none}
use Rattle.nts_theory.proofs.Aliases.ByParts.{bare, bare_holds, read, kind_here, at_goal, own_open, EquatesAt, StandsAt, EquatesAll, StandAll, parts_follow, parts_apply, kind_is, met_follows, related_equates, by_parts}

-- What is known of a candidate when its goals were evaluated: `IsMetBy` says that a goal which was added is proved, or is left open.
-- A premise p stands under the table: it was added as it is, since it keeps its aliases or has none left, or with terms in place of its
-- aliases, each related with its alias
module _ (IsMetBy : Premise → Type 0) (c : Content) (z : GoalKind) where
  pub record IsPutIn (p : Premise) : Type 0 where
    pub statement : Tree
    pub replaced : Replaced (λ a v. IsTermOf c v × IsMetBy (choice z p a v)) p.predicate statement
    pub met : IsMetBy (record p { predicate = statement })

  pub record IsAddedTo (p : Premise) : Type 0 where
    pub term : IsTermOf c p.predicate
    pub by : KeepsAliases (statement_of (deeply_resolved c p.predicate)) × IsMetBy p ⊎ (KeepsAliases (statement_of (deeply_resolved c p.predicate)) → ⊥) × IsPutIn p

  -- the goals that relating left, each of which was added to the goals of the environment e
  abbrev pub AreAddedTo : Tree → List Tree → Type 0
  AreAddedTo e gs = (g : Tree) → Among gs g → IsAddedTo (relating e g)

-- an equation holds under a table: relating its sides left goals that were added
pub record IsRelatedWith (IsMetBy : Premise → Type 0) (V : ℕ → List Variance) (c : Content) (z : GoalKind) (e a b : Tree) : Type 0 where
  pub left : IsTermOf c a
  pub right : IsTermOf c b
  pub goals : List Tree
  pub added : AreAddedTo IsMetBy c z e goals
  pub related : RelatedUnder V c (map (deeply_resolved c) goals) variance.Invariant a b

abbrev pub HoldsEquationWith : (Premise → Type 0) → (ℕ → List Variance) → Content → GoalKind → Tree → List Tree → Equation → Type 0
HoldsEquationWith M V c z e vs (related a b) = IsRelatedWith M V c z e (filled vs a) (filled vs b)
HoldsEquationWith M V c z e vs (alike a b) = AreEquated c vs a b

module _ (h : Handler) (V : ℕ → List Variance) (mode : Mode) (A : List Assumed) (c : Content) (s : IsSound c) (t : HoldsTerms c) (k : AreConstraintsOf c) (e g : Tree) where
  -- a goal that was added is proved from the assumptions behind its step, or is left open; and steps to it count in a proof as on the stack
  pub record IsMetAt (os : List Premise) (q : Premise) : Type 0 where
    pub met : IsProvedFrom (meaning h V) mode (passed (step_kind (goal_kind (meaning h V) g) q.source) A) c q.environment q.predicate ⊎ (IsNormalization (meaning h V) (deeply_resolved c g) × Among os q)
    pub counts : passed (step_kind (goal_kind (meaning h V) g) q.source) A ≡ passed (proof_kind (goal_kind (meaning h V) g) q.source) A

  -- a candidate holds under the table, where the goals os are left open
  pub record HoldsCandidateWith (d : Candidate) (os : List Premise) : Type 0 where
    pub chosen : List Tree
    pub values : AreValuesOf d.fresh chosen
    pub known : (v : Tree) → Among chosen v → Knows c v
    pub equations : (q : Equation) → Among d.equations q → HoldsEquationWith (IsMetAt os) V c (goal_kind (meaning h V) g) e chosen q
    pub constraints : (x : Constraint) → Among d.constraints x → IsHeldAt c chosen x
    pub goals : (q : Premise) → Among d.goals q → IsAddedTo (IsMetAt os) c (goal_kind (meaning h V) g) (record { source = q.source; environment = e; predicate = filled chosen q.predicate })
    pub open_goals : (o : Premise) → Among os o → IsTermOf c o.environment × IsTermOf c o.predicate

  module _ (asked : IsAsked e g) (ke : IsTermOf c e) (kg : IsTermOf c g) (d : Candidate) (os : List Premise) (x : HoldsCandidateWith d os) where
    abbrev z : GoalKind
    z = goal_kind (meaning h V) g

    abbrev e' : Tree
    e' = deeply_resolved c e

    abbrev cs : List Constraint
    cs = read_constraints c c.constraints

    abbrev here : GoalKind
    here = kind_here h V mode A c s t k e g asked ke kg d x.chosen x.values x.known x.constraints os x.open_goals

    abbrev at : Premise → List Assumed
    at = at_goal h V mode A c s t k e g asked ke kg d x.chosen x.values x.known x.constraints os x.open_goals

    abbrev own : Premise → Type 0
    own = own_open h V mode A c s t k e g asked ke kg d x.chosen x.values x.known x.constraints os x.open_goals

    abbrev Owed : ((Premise → Type 0) → Type 0) → Type 0
    Owed = OwesFrom (meaning h V) mode e' cs at own

    formed_env : IsFormed e'
    formed_env = formed_here h V mode c s t k e g asked ke kg (bare h V mode A c s t k e g asked ke kg d x.chosen x.values x.known x.constraints os x.open_goals) (bare_holds h V mode A c s t k e g asked ke kg d x.chosen x.values x.known x.constraints os x.open_goals)

    closed_env : IsClosedEnvironment e'
    closed_env = closed_here h V mode c s t k e g asked ke kg (bare h V mode A c s t k e g asked ke kg d x.chosen x.values x.known x.constraints os x.open_goals) (bare_holds h V mode A c s t k e g asked ke kg d x.chosen x.values x.known x.constraints os x.open_goals)

    same_kind : here ≡ z
    same_kind = kind_is h V mode A c s t k e g asked ke kg d x.chosen x.values x.known x.constraints os x.open_goals

    met : (q : Premise) → IsMetAt os q → Owed (λ P. P (premise_by (deeply_resolved c) q))
    met q y = met_follows h V mode A c s t k e g asked ke kg d x.chosen x.values x.known x.constraints os x.open_goals q y.counts y.met

    -- what was added in the place of a premise stands for it
    stands : (p : Premise) → p.environment ≡ e → IsAddedTo (IsMetAt os) c z p → Owed (λ P. Stands (λ y. Unit {0}) P here (premise_by (deeply_resolved c) p))
    stands p same y =
        subst (λ w. Owed (λ P. Stands (λ v. Unit {0}) P w (premise_by (deeply_resolved c) p))) (sym same_kind) (by_case y.by)
      where
        chosen_met : (a v : Tree) → IsMetAt os (choice z p a v) → Owed (λ P. P (choice z (premise_by (deeply_resolved c) p) (deeply_resolved c a) (deeply_resolved c v)))
        chosen_met a v w =
            subst (λ u. Owed (λ P. P (record { source = normalize_goal (step_kind z p.source); environment = deeply_resolved c p.environment; predicate = u }))) (resolved_about c (predicate.AliasRelate direction.Equate) a v) (met (choice z p a v) w)

        by_case : KeepsAliases (statement_of (deeply_resolved c p.predicate)) × IsMetAt os p ⊎ (KeepsAliases (statement_of (deeply_resolved c p.predicate)) → ⊥) × IsPutIn (IsMetAt os) c z p → Owed (λ P. Stands (λ v. Unit {0}) P z (premise_by (deeply_resolved c) p))
        by_case (inl (keeps, m)) = from_then (meaning h V) mode e' cs at own (λ P. P (premise_by (deeply_resolved c) p)) (λ P. Stands (λ v. Unit {0}) P z (premise_by (deeply_resolved c) p)) (λ P w. inl (keeps, w)) (met p m)
        by_case (inr (loose, put)) =
            added_stands (meaning h V) mode c s t k e' formed_env closed_env at own z (premise_by (deeply_resolved c) p) p.predicate put.statement (ap (deeply_resolved c) same) refl loose y.term
            (λ a v. IsTermOf c v × IsMetAt os (choice z p a v)) (λ a v i w. (w.0, chosen_met a v w.1)) put.replaced (met (record p { predicate = put.statement }) put.met)

    equation : (q : Equation) → Among d.equations q → Owed (EquatesAt h V mode A c s t k e g asked ke kg d x.chosen x.values x.known x.constraints os x.open_goals q)
    equation (related a b) i =
        let y : IsRelatedWith (IsMetAt os) V c z e (filled x.chosen a) (filled x.chosen b) = x.equations (related a b) i in
        related_equates h V mode A c s t k e g asked ke kg d x.chosen x.values x.known x.constraints os x.open_goals a b (map (deeply_resolved c) y.goals) y.left y.right
        (λ w j. let (p, l, same) = among_mapped (deeply_resolved c) y.goals w j in
        subst (λ u. Owed (λ P. Stands (λ v. Unit {0}) P here (relating e' u))) (sym same) (stands (relating e p) refl (y.added p l)))
        y.related
    equation (alike a b) i =
        let y : AreEquated c x.chosen a b = x.equations (alike a b) i in
        let l = read_filled h V mode c s t k e g asked ke kg (bare h V mode A c s t k e g asked ke kg d x.chosen x.values x.known x.constraints os x.open_goals) (bare_holds h V mode A c s t k e g asked ke kg d x.chosen x.values x.known x.constraints os x.open_goals) a y.left in
        let r = read_filled h V mode c s t k e g asked ke kg (bare h V mode A c s t k e g asked ke kg d x.chosen x.values x.known x.constraints os x.open_goals) (bare_holds h V mode A c s t k e g asked ke kg d x.chosen x.values x.known x.constraints os x.open_goals) b y.right in
        let al : Alike (GrantsEqual c) (deeply_resolved c (filled x.chosen a)) (deeply_resolved c (filled x.chosen b)) =
        alike_granted c (deeply_resolved c (filled x.chosen a)) (deeply_resolved c (filled x.chosen b)) y.alike
        (deeply_resolved-deeply_resolved c (filled x.chosen a) s) (deeply_resolved-deeply_resolved c (filled x.chosen b) s) in
        from_none (meaning h V) mode e' cs at own (EquatesAt h V mode A c s t k e g asked ke kg d x.chosen x.values x.known x.constraints os x.open_goals (alike a b))
        (λ P. subst (λ u. Alike (GrantsEqual c) u (read h V mode A c s t k e g asked ke kg d x.chosen x.values x.known x.constraints os x.open_goals b)) (sym l) (subst (λ u. Alike (GrantsEqual c) (deeply_resolved c (filled x.chosen a)) u) (sym r) al))

    goal : IsCandidateFor e g d → (q : Premise) → Among d.goals q → Owed (StandsAt h V mode A c s t k e g asked ke kg d x.chosen x.values x.known x.constraints os x.open_goals q)
    goal keeps q i =
        let b = bare h V mode A c s t k e g asked ke kg d x.chosen x.values x.known x.constraints os x.open_goals in
        let bh = bare_holds h V mode A c s t k e g asked ke kg d x.chosen x.values x.known x.constraints os x.open_goals in
        let y = x.goals q i in
        let nested = keeps.goals q i in
        let none = or_false (any_label is_canonical e) (any_label is_canonical (more g empty)) asked.no_positions in
        let stays : filled x.chosen q.environment ≡ e = ap (filled x.chosen) nested.environment ∙ filled-none x.chosen e none.0 in
        let env_term : IsTermOf c (filled x.chosen q.environment) = subst (IsTermOf c) (sym stays) ke in
        let env = read_filled h V mode c s t k e g asked ke kg b bh q.environment env_term ∙ ap (deeply_resolved c) stays in
        let pred = read_filled h V mode c s t k e g asked ke kg b bh q.predicate y.term in
        let p : Premise = record { source = q.source; environment = e; predicate = filled x.chosen q.predicate } in
        let same : premise_by (read h V mode A c s t k e g asked ke kg d x.chosen x.values x.known x.constraints os x.open_goals) q ≡ premise_by (deeply_resolved c) p = λ j. record { source = q.source; environment = env j; predicate = pred j } in
        subst (λ w. Owed (λ P. Stands (λ v. Unit {0}) P here w)) (sym same) (stands p refl y)

    pub all_parts : IsCandidateFor e g d → OwesFrom (meaning h V) mode e' cs at own (λ P. EquatesAll h V mode A c s t k e g asked ke kg d x.chosen x.values x.known x.constraints os x.open_goals P × StandAll h V mode A c s t k e g asked ke kg d x.chosen x.values x.known x.constraints os x.open_goals P)
    all_parts keeps = parts_follow h V mode A c s t k e g asked ke kg d x.chosen x.values x.known x.constraints os x.open_goals equation (goal keeps)

    pub by_candidate_with : IsLawfulHandler h → Among (h.offers mode e g) d → d.certainty ≡ certain → IsProvedWith (meaning h V) mode A c e g os
    by_candidate_with law offered sure =
        let keep = law.keep in
        let keeps = keep.each mode e g d asked offered in
        by_parts h V mode A c s t k e g asked ke kg d x.chosen x.values x.known x.constraints os x.open_goals law.rules keeps offered sure (all_parts keeps)

    -- .. as a rule for what the goal says under the table, from premises that are served
    pub record AppliesPlainly : Type 0 where
      pub premises : List Premise
      pub served : (q : Premise) → Among premises q → IsServedFrom (meaning h V) mode e' cs (at q) (Among premises) q
      pub applies : IsApplied (meaning h V) mode (λ y. Unit {0}) (Grants (sequent_at c e g)) (Hides (sequent_at c e g)) (Stands (λ y. Unit {0}) (λ q. Among premises q ⊎ own q) here) e' (unbound (instance_of (reading_of c s t) asked.statement))

    pub applies_plainly : IsLawfulHandler h → Among (h.offers mode e g) d → d.certainty ≡ certain → AppliesPlainly
    applies_plainly law offered sure =
        let keep = law.keep in
        let keeps = keep.each mode e g d asked offered in
        let o = all_parts keeps in
        let both = o.holds in
        record { premises = o.premises; served = o.served; applies = parts_apply h V mode A c s t k e g asked ke kg d x.chosen x.values x.known x.constraints os x.open_goals law.rules keeps offered sure (λ q. Among o.premises q ⊎ own q) both.0 both.1 }
