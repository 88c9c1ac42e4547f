-- A goal is proved, from assumptions, by one certain candidate: its equations and its goals follow from goals that are proved and, where the goal
-- normalizes an alias, from goals that are left open.
use Rattle.std.proofs.Common.{◌≡◌, ◌⊎◌, inl, inr, ⊎_elim, ℕ, List, [], ◌∷◌, refl, sym, ap, ◌∙◌, subst}
use Rattle.std.specs.Prelude.{map}
use Rattle.nts_model.specs.declared.labels.Variance.{Variance}
use Rattle.nts_model.specs.declared.labels.Variance.TheVariants as variance
use Rattle.nts_model.specs.Terms.Trees.{Tree}
use Rattle.nts_model.specs.Tables.Contents.{Content}
use Rattle.nts_model.specs.Tables.Resolving.{deeply_resolved, Knows, IsSound}
use Rattle.nts_model.specs.Terms.Substitutions.{instance_of, filled}
use Rattle.nts_model.specs.Derivations.Related.{Constraint, unbound}
use Rattle.nts_model.specs.Lists.{Among}
use Rattle.nts_model.specs.Derivations.Sequents.{Premise, Hidden, IsOfTerms, Grants, Hides, premise_under}
use Rattle.nts_model.specs.Derivations.Rules.{Mode, Equation, related, HoldsEquation, GoalKind, goal_kind, step_kind, proof_kind, Stands, IsApplied, IsRule}
use Rattle.nts_model.specs.Derivations.Proofs.{Assumed, passed, by_rule, IsNormalization}
use Rattle.nts_model.specs.Derivations.Handlers.{Handler, meaning, Candidate, certain, equation_by, constraint_by, hidden_by, premise_by, AreValuesOf, use_of, IsAsked, InstancesAreRules, IsCandidateFor}
use Rattle.nts_model.specs.Derivations.Proving.{HoldsTerms, IsTermOf, AreConstraintsOf, read_constraints, read_goals, sequent_at, sequent_with, HoldsButForGoals, IsHeldAt}
use Rattle.nts_model.specs.Searching.Stacks.{IsProvedFrom, IsProvedWith}
use Rattle.nts_variance_model.specs.Variances.AnsweredGoals.{RelatedUnder}
use Rattle.nts_theory.proofs.Derivations.Monotone.{stands_more}
use Rattle.nts_model.proofs.Terms.Composing.{itself, instance_of-itself}
use Rattle.nts_model.proofs.Tables.TableInstances.{reading_of, instance_of-reading}
use Rattle.nts_model.proofs.Terms.Identified.{one_itself}
use Rattle.nts_model.proofs.Tables.ResolvedTerms.{IsFormed-deeply_resolved}
use Rattle.nts_theory.proofs.Derivations.Served.{Grows}
use Rattle.nts_theory.proofs.Derivations.ByCandidate.{AreValuesOf-instance, among_mapped, handlers_instance, read_itself, read_by, read_filled, Equates, equates_grows, chosen_terms, constraint_granted, goal_says, goal_terms}
use Rattle.nts_theory.proofs.Derivations.FromCandidate.{statement_kind-instance}
use Rattle.nts_theory.proofs.Aliases.ByRelating.{EachStands, Relates, related_follows}
use Rattle.nts_theory.proofs.Derivations.Owing.{IsServedFrom, at_premise, derive_all_open, OwesFrom, from_then, from_both, from_all, from_one, from_own}

module _ (h : Handler) (V : ℕ → List Variance) (mode : Mode) (A : List Assumed) (c : Content) (s : IsSound c) (t : HoldsTerms c) (k : AreConstraintsOf c) where
  module _ (e g : Tree) (asked : IsAsked e g) (ke : IsTermOf c e) (kg : IsTermOf c g) (d : Candidate) (chosen : List Tree) (values : AreValuesOf d.fresh chosen) (known : (v : Tree) → Among chosen v → Knows c v)
      (held : (x : Constraint) → Among d.constraints x → IsHeldAt c chosen x) (os : List Premise) (terms_of : (o : Premise) → Among os o → IsTermOf c o.environment × IsTermOf c o.predicate) where
    -- the candidate without its equations and goals
    abbrev pub bare : Candidate
    bare = record d { equations = []; goals = [] }

    abbrev pub bare_holds : HoldsButForGoals c bare
    bare_holds = record { chosen = chosen; values = values; known = known; equations = λ q i. absurd i; constraints = held }

    abbrev pub read : Tree → Tree
    read = read_by h V mode c s t k e g asked ke kg bare bare_holds

    abbrev pub kind_here : GoalKind
    kind_here = goal_kind (meaning h V) (unbound (instance_of (reading_of c s t) asked.statement))

    abbrev pub at_goal : Premise → List Assumed
    at_goal q = at_premise (meaning h V) mode (deeply_resolved c e) (read_constraints c c.constraints) A (deeply_resolved c g) q

    -- the goals that are left open
    abbrev pub own_open : Premise → Type 0
    own_open q = IsNormalization (meaning h V) (deeply_resolved c g) × Among (read_goals c os) q

    abbrev pub Follows : ((Premise → Type 0) → Type 0) → Type 0
    Follows = OwesFrom (meaning h V) mode (deeply_resolved c e) (read_constraints c c.constraints) at_goal own_open

    abbrev pub EquatesAt : Equation → (Premise → Type 0) → Type 0
    EquatesAt = Equates h V mode c s t k e g asked ke kg bare bare_holds kind_here

    abbrev pub StandsAt : Premise → (Premise → Type 0) → Type 0
    StandsAt q P = Stands (λ y. Unit {0}) P kind_here (premise_by read q)

    abbrev pub EquatesAll : (Premise → Type 0) → Type 0
    EquatesAll P = (q : Equation) → Among d.equations q → EquatesAt q P

    abbrev pub StandAll : (Premise → Type 0) → Type 0
    StandAll P = (q : Premise) → Among d.goals q → StandsAt q P

    stands_grows : (q : Premise) → Grows (meaning h V) mode (deeply_resolved c e) (read_constraints c c.constraints) (StandsAt q)
    stands_grows q P Q f y = stands_more f kind_here (premise_by read q) y

    pub parts_follow : ((q : Equation) → Among d.equations q → Follows (EquatesAt q)) → ((q : Premise) → Among d.goals q → Follows (StandsAt q)) → Follows (λ P. EquatesAll P × StandAll P)
    parts_follow f y =
        let m = meaning h V in
        let e' = deeply_resolved c e in
        let cs = read_constraints c c.constraints in
        from_both m mode e' cs at_goal own_open EquatesAll StandAll
        (λ P Q u w q i. equates_grows h V mode c s t k e g asked ke kg bare bare_holds kind_here q P Q u (w q i)) (λ P Q u w q i. stands_grows q P Q u (w q i))
        (from_all m mode e' cs at_goal own_open EquatesAt (equates_grows h V mode c s t k e g asked ke kg bare bare_holds kind_here) d.equations f)
        (from_all m mode e' cs at_goal own_open StandsAt stands_grows d.goals y)

    kind_resolved : goal_kind (meaning h V) (deeply_resolved c g) ≡ kind_here
    kind_resolved = ap (goal_kind (meaning h V)) (goal_says h V mode c s t k e g asked ke kg bare bare_holds)

    kind_asked : kind_here ≡ goal_kind (meaning h V) g
    kind_asked =
        statement_kind-instance h.is_coinductive (reading_of c s t) asked.statement asked.handlers
        ∙ sym (ap (goal_kind (meaning h V)) asked.binds_nothing)

    pub kind_is : kind_here ≡ goal_kind (meaning h V) g
    kind_is = kind_asked

    -- a goal that was added: it is proved, or is left open
    abbrev pub IsMetGoal : Premise → Type 0
    IsMetGoal q = IsProvedFrom (meaning h V) mode (passed (step_kind (goal_kind (meaning h V) g) q.source) A) c q.environment q.predicate ⊎ (IsNormalization (meaning h V) (deeply_resolved c g) × Among os q)

    read_among : (gs : List Premise) (q : Premise) → Among gs q → Among (read_goals c gs) (premise_by (deeply_resolved c) q)
    read_among [] q i = absurd i
    read_among (x ∷ gs) q i = ⊎_elim (λ y. inl (ap (premise_by (deeply_resolved c)) y)) (λ j. inr (read_among gs q j)) i

    pub met_follows : (q : Premise) → passed (step_kind (goal_kind (meaning h V) g) q.source) A ≡ passed (proof_kind (goal_kind (meaning h V) g) q.source) A → IsMetGoal q → Follows (λ P. P (premise_by (deeply_resolved c) q))
    met_follows q same (inr x) = from_own (meaning h V) mode (deeply_resolved c e) (read_constraints c c.constraints) at_goal own_open (premise_by (deeply_resolved c) q) (x.0, read_among os q x.1)
    met_follows q same (inl p) =
        let i = p.is_instance in
        let there : passed (step_kind (goal_kind (meaning h V) g) q.source) A ≡ at_goal q = same ∙ ap (λ z. passed (proof_kind z q.source) A) (sym (kind_resolved ∙ kind_asked)) in
        let served : IsServedFrom (meaning h V) mode (deeply_resolved c e) (read_constraints c c.constraints) (passed (step_kind (goal_kind (meaning h V) g) q.source) A) (λ y. ⊥) (premise_by (deeply_resolved c) q) =
        record {
          sequent = p.sequent;
          reached = p.reached;
          instance = p.instance;
          environment = i.environment;
          predicate = i.predicate;
          constraints = i.constraints;
          hidden = λ o j. ⊎_elim (λ v. v) (λ v. absurd v.1) (i.hidden o j);
          open_goals = λ o j. absurd (i.open_goals o j);
        } in
        from_one (meaning h V) mode (deeply_resolved c e) (read_constraints c c.constraints) at_goal own_open (premise_by (deeply_resolved c) q)
        (subst (λ B. IsServedFrom (meaning h V) mode (deeply_resolved c e) (read_constraints c c.constraints) B (λ y. ⊥) (premise_by (deeply_resolved c) q)) there served)

    -- an equation of which relating left goals
    pub related_equates : (a b : Tree) (ks : List Tree) → IsTermOf c (filled chosen a) → IsTermOf c (filled chosen b)
        → EachStands (meaning h V) mode c s (deeply_resolved c e) kind_here at_goal own_open ks → RelatedUnder V c ks variance.Invariant (filled chosen a) (filled chosen b) → Follows (EquatesAt (related a b))
    related_equates a b ks ta tb each r =
        let x = read_filled h V mode c s t k e g asked ke kg bare bare_holds a ta in
        let y = read_filled h V mode c s t k e g asked ke kg bare bare_holds b tb in
        let e' = deeply_resolved c e in
        from_then (meaning h V) mode e' (read_constraints c c.constraints) at_goal own_open
        (Relates (meaning h V) mode c s e' kind_here at_goal own_open variance.Invariant (filled chosen a) (filled chosen b)) (EquatesAt (related a b))
        (λ P z. subst (λ u. HoldsEquation (meaning h V) (λ v. Unit {0}) (Grants (sequent_at c e g)) (Stands (λ v. Unit {0}) P kind_here) e' (related u (read b))) (sym x)
        (subst (λ u. HoldsEquation (meaning h V) (λ v. Unit {0}) (Grants (sequent_at c e g)) (Stands (λ v. Unit {0}) P kind_here) e' (related (deeply_resolved c (filled chosen a)) u)) (sym y) z))
        (related_follows (meaning h V) mode c s e' kind_here at_goal own_open ks variance.Invariant (filled chosen a) (filled chosen b) each r)

    no_hidden : IsCandidateFor e g d → (y : Hidden) → Among (map (hidden_by read) d.hidden) y → ⊥
    no_hidden keeps y i =
        let (p, j, same) = among_mapped (hidden_by read) d.hidden y i in
        let no : Among [] p = subst (λ l. Among l p) keeps.no_hidden j in
        no

    pub parts_apply : InstancesAreRules h → IsCandidateFor e g d → Among (h.offers mode e g) d → d.certainty ≡ certain → (P : Premise → Type 0) → EquatesAll P → StandAll P
        → IsApplied (meaning h V) mode (λ y. Unit {0}) (Grants (sequent_with c e g os)) (Hides (sequent_with c e g os))
        (Stands (λ y. Unit {0}) P kind_here) (deeply_resolved c e) (unbound (instance_of (reading_of c s t) asked.statement))
    parts_apply law keeps offered sure P equated stand =
        let fit : AreValuesOf d.fresh (map (instance_of (reading_of c s t)) chosen) = AreValuesOf-instance (reading_of c s t) d.fresh chosen values in
        record {
          use_of = use_of d e g (reading_of c s t) (map (instance_of (reading_of c s t)) chosen);
          applies = law.instances mode e g d (reading_of c s t) (use_of d e g (reading_of c s t) (map (instance_of (reading_of c s t)) chosen)) asked offered sure (record { values = fit; same = refl });
          environment = instance_of-reading c s t e ke.knows ke.formed;
          conclusion = ap (instance_of (reading_of c s t)) asked.binds_nothing;
          values = λ v i. (tt, chosen_terms h V mode c s t k e g asked ke kg bare bare_holds v i);
          equations = λ q i.
              (let (p, j, same) = among_mapped (equation_by read) d.equations q i in
              subst (HoldsEquation (meaning h V) (λ y. Unit {0}) (Grants (sequent_with c e g os)) (Stands (λ y. Unit {0}) P kind_here) (deeply_resolved c e)) (sym same) (equated p j));
          goals = λ q i.
              (let (p, j, same) = among_mapped (premise_by read) d.goals q i in
              subst (Stands (λ y. Unit {0}) P kind_here) (sym same) (stand p j));
          constraints = λ y i.
              (let (p, j, same) = among_mapped (constraint_by read) d.constraints y i in
              subst (Grants (sequent_with c e g os)) (sym same) (constraint_granted h V mode c s t k e g asked ke kg bare bare_holds p (held p j)));
          hidden = λ y i. absurd (no_hidden keeps y i);
          item_bounds = λ y q i j. absurd (no_hidden keeps y i);
        }

    goals_themselves : (gs : List Premise) → ((o : Premise) → Among gs o → IsTermOf c o.environment × IsTermOf c o.predicate) → (o : Premise) → Among (read_goals c gs) o → Among (read_goals c gs) (premise_under itself o)
    goals_themselves [] f o i = absurd i
    goals_themselves (x ∷ gs) f o i = ⊎_elim
        (λ same. let u = f x (inl refl) in
        let u0 = u.0 in
        let u1 = u.1 in
        let a = instance_of-itself (deeply_resolved c x.environment) (IsFormed-deeply_resolved c x.environment s t u0.knows u0.formed) in
        let b = instance_of-itself (deeply_resolved c x.predicate) (IsFormed-deeply_resolved c x.predicate s t u1.knows u1.formed) in
        let one : premise_under itself (premise_by (deeply_resolved c) x) ≡ premise_by (deeply_resolved c) x = λ j. record { source = x.source; environment = a j; predicate = b j } in
        inl (ap (premise_under itself) same ∙ one))
        (λ j. inr (goals_themselves gs (λ y z. f y (inr z)) o j)) i

    -- the goal is proved under the table by the candidate, and the goals that are left are left open
    pub by_parts : InstancesAreRules h → IsCandidateFor e g d → Among (h.offers mode e g) d → d.certainty ≡ certain → Follows (λ P. EquatesAll P × StandAll P) → IsProvedWith (meaning h V) mode A c e g os
    by_parts law keeps offered sure o =
        let both = o.holds in
        let m = meaning h V in
        let e' = deeply_resolved c e in
        let g' = deeply_resolved c g in
        let rule : IsRule m mode (λ y. Unit {0}) (Grants (sequent_with c e g os)) (Hides (sequent_with c e g os)) (λ q. Among o.premises q ⊎ own_open q) e' g' =
        inl (
          instance_of (reading_of c s t) asked.statement,
          goal_says h V mode c s t k e g asked ke kg bare bare_holds,
          inl (handlers_instance (reading_of c s t) asked.statement asked.handlers, parts_apply law keeps offered sure (λ q. Among o.premises q ⊎ own_open q) both.0 both.1),
        ) in
        let w : IsOfTerms (sequent_at c e g) = goal_terms h V mode c s t k e g asked ke kg bare bare_holds in
        let terms : IsOfTerms (sequent_with c e g os) = record { formed = w.formed; closed = w.closed; no_positions = w.no_positions; well_bound = w.well_bound; statement = w.statement; statements = w.statements } in
        let all = derive_all_open m mode e' (read_constraints c c.constraints) A g' (read_goals c os) o.premises o.premises o.served in
        let f = w.formed in
        record {
          sequent = sequent_with c e g os;
          reached = inl (by_rule o.premises terms rule all);
          instance = itself;
          is_instance = record {
            environment = one_itself _ _ _ (instance_of-itself e' f.0);
            predicate = one_itself _ _ _ (instance_of-itself g' f.1.0);
            constraints = λ y i. inr (subst (Among (read_constraints c c.constraints)) (sym (read_itself c s t k y i)) i);
            hidden = λ y i. absurd i;
            open_goals = goals_themselves os terms_of;
          };
        }
