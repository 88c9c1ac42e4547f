-- A goal is proved, from assumptions, by one certain candidate whose goals are proved from the assumptions behind a step.
use Rattle.std.proofs.Common.{◌≡◌, ◌⊎◌, inl, inr, ⊎_elim, ℕ, List, [], Bool, refl, sym, ap, ◌∙◌, subst}
use Rattle.std.specs.Prelude.{map}
use Rattle.nts_model.specs.declared.labels.Variance.{Variance}
use Rattle.nts_model.specs.declared.labels.ClauseHead.TheVariants as clause
use Rattle.nts_model.specs.declared.labels.PredicateHead.TheVariants as predicate
use Rattle.nts_model.specs.declared.labels.Label.TheVariants as label
use Rattle.nts_model.specs.Terms.Trees.{Tree, node, any_label, is_canonical, more, empty}
use Rattle.nts_model.specs.Tables.Contents.{Content}
use Rattle.nts_model.specs.Tables.Resolving.{deeply_resolved, IsSound}
use Rattle.nts_model.specs.Terms.Substitutions.{instance_of, Instance, filled}
use Rattle.nts_model.specs.Derivations.Related.{unbound}
use Rattle.nts_model.specs.Lists.{Among}
use Rattle.nts_model.specs.Derivations.Sequents.{Source, misc, type_relating, impl_where_bound, alias_bound_const, alias_well_formed, normalize_goal, Premise, Hidden, IsOfTerms, Grants, Hides}
use Rattle.nts_model.specs.Derivations.Rules.{Mode, Equation, HoldsEquation, GoalKind, coinductive_trait, normalization, other_goal, goal_kind, statement_kind, step_kind, proof_kind, Stands, statement_of, IsHandlers, IsApplied, IsRule}
use Rattle.nts_model.specs.Derivations.Proofs.{Assumed, passed, by_rule}
use Rattle.nts_model.specs.Derivations.Handlers.{Handler, meaning, Candidate, certain, equation_by, constraint_by, hidden_by, premise_by, AreValuesOf, use_of, IsAsked, IsHandlersSource, InstancesAreRules, IsCandidateFor, IsLawfulHandler}
use Rattle.nts_model.specs.Derivations.Proving.{HoldsTerms, IsTermOf, AreConstraintsOf, read_constraints, sequent_at, HoldsButForGoals}
use Rattle.nts_model.specs.Searching.Stacks.{IsProvedFrom, IsProvedFromAt, HoldsCandidateFrom}
use Rattle.nts_theory.proofs.Derivations.Monotone.{stands_more, rule_more}
use Rattle.nts_model.proofs.Terms.Composing.{itself, instance_of-itself}
use Rattle.nts_model.proofs.Tables.TableInstances.{reading_of, instance_of-reading}
use Rattle.nts_model.proofs.Terms.Identified.{one_itself, one_trans}
use Rattle.nts_theory.proofs.Derivations.Served.{keeps_or_not, Grows}
use Rattle.nts_theory.proofs.Derivations.Relating.{Chooses, chooses_grows, chooses_itself}
use Rattle.nts_theory.proofs.Derivations.ByCandidate.{AreValuesOf-instance, among_mapped, handlers_instance, read_itself, formed_here, closed_here, read_by, read_filled, Equates, equates_grows, read_formed, chosen_terms, equation_follows, constraint_granted, goal_says, goal_terms}
use Rattle.nts_model.proofs.Terms.Unpositioned.{or_false, IsFormedTerm, filled-none}
use Rattle.nts_theory.proofs.Derivations.Owing.{IsServedFrom, at_premise, derive_all_from, OwesFrom, owes_from, from_then, from_both, from_one, from_all}

-- what a handler's goal is about, each instance of it is about
pub statement_kind-instance : (f : ℕ → Bool) (ι : Instance) (s : Tree) → IsHandlers s → statement_kind f (instance_of ι s) ≡ statement_kind f s
statement_kind-instance f ι (node (label.Clause (clause.Trait i)) ts) h = refl
statement_kind-instance f ι (node (label.Clause (clause.HostEffect i)) ts) h = refl
statement_kind-instance f ι (node (label.Clause (clause.Projection i)) ts) h = refl
statement_kind-instance f ι (node (label.Predicate (predicate.NormalizesTo i)) ts) h = refl
statement_kind-instance f ι s h = absurd h

-- a step to a goal of a handler is, in a proof, coinductive where it is so on the stack
pub steps_passed : (z : GoalKind) (o : Source) (A : List Assumed) → IsHandlersSource o → passed (step_kind z o) A ≡ passed (proof_kind z o) A
steps_passed coinductive_trait o A h = refl
steps_passed normalization misc A h = refl
steps_passed normalization type_relating A h = refl
steps_passed normalization impl_where_bound A h = refl
steps_passed normalization alias_bound_const A h = refl
steps_passed normalization alias_well_formed A h = refl
steps_passed normalization (normalize_goal p) A h = absurd h
steps_passed other_goal misc A h = refl
steps_passed other_goal type_relating A h = refl
steps_passed other_goal impl_where_bound A h = refl
steps_passed other_goal alias_bound_const A h = refl
steps_passed other_goal alias_well_formed A h = refl
steps_passed other_goal (normalize_goal p) A h = absurd h

-- .. and so is a step to the equality of an alias of such a goal
pub choice_passed : (z : GoalKind) (o : Source) (A : List Assumed) → IsHandlersSource o → passed (step_kind z o) A ≡ passed (proof_kind z (normalize_goal (step_kind z o))) A
choice_passed coinductive_trait o A h = refl
choice_passed normalization misc A h = refl
choice_passed normalization type_relating A h = refl
choice_passed normalization impl_where_bound A h = refl
choice_passed normalization alias_bound_const A h = refl
choice_passed normalization alias_well_formed A h = refl
choice_passed normalization (normalize_goal p) A h = absurd h
choice_passed other_goal misc A h = refl
choice_passed other_goal type_relating A h = refl
choice_passed other_goal impl_where_bound A h = refl
choice_passed other_goal alias_bound_const A h = refl
choice_passed other_goal alias_well_formed A h = refl
choice_passed other_goal (normalize_goal p) A h = absurd h

module _ (h : Handler) (V : ℕ → List Variance) (mode : Mode) (A : List Assumed) (c : Content) (s : IsSound c) (t : HoldsTerms c) (k : AreConstraintsOf c) where
  module _ (e g : Tree) (asked : IsAsked e g) (ke : IsTermOf c e) (kg : IsTermOf c g) (d : Candidate) (x : HoldsCandidateFrom (meaning h V) mode A c g d) where
    -- the candidate without its goals
    abbrev pub shallow : Candidate
    shallow = record d { goals = [] }

    abbrev pub shallow_holds : HoldsButForGoals c shallow
    shallow_holds = record { chosen = x.chosen; values = x.values; known = x.known; equations = x.equations; constraints = x.constraints }

    abbrev read : Tree → Tree
    read = read_by h V mode c s t k e g asked ke kg shallow shallow_holds

    abbrev pub at_goal : Premise → List Assumed
    at_goal q = at_premise (meaning h V) mode (deeply_resolved c e) (read_constraints c c.constraints) A (deeply_resolved c g) q

    -- no goal is left open
    abbrev pub nothing : Premise → Type 0
    nothing q = ⊥

    abbrev Follows : ((Premise → Type 0) → Type 0) → Type 0
    Follows = OwesFrom (meaning h V) mode (deeply_resolved c e) (read_constraints c c.constraints) at_goal nothing

    -- the goal's kind is that of what it says under the table
    abbrev pub kind_here : GoalKind
    kind_here = goal_kind (meaning h V) (unbound (instance_of (reading_of c s t) asked.statement))

    says : deeply_resolved c g ≡ unbound (instance_of (reading_of c s t) asked.statement)
    says = goal_says h V mode c s t k e g asked ke kg shallow shallow_holds

    pub kind_resolved : goal_kind (meaning h V) (deeply_resolved c g) ≡ kind_here
    kind_resolved = ap (goal_kind (meaning h V)) says

    kind_asked : kind_here ≡ goal_kind (meaning h V) g
    kind_asked =
        statement_kind-instance h.is_coinductive (reading_of c s t) asked.statement asked.handlers
        ∙ sym (ap (goal_kind (meaning h V)) asked.binds_nothing)

    -- its goals
    abbrev StandsAt : Premise → (Premise → Type 0) → Type 0
    StandsAt q P = Stands (λ y. Unit {0}) P kind_here (premise_by read q)

    goal_served : (q : Premise) → IsHandlersSource q.source → IsProvedFromAt (meaning h V) mode (passed (step_kind (goal_kind (meaning h V) g) q.source) A) c x.chosen q
        → IsServedFrom (meaning h V) mode (deeply_resolved c e) (read_constraints c c.constraints) (at_goal (premise_by read q)) nothing (premise_by read q)
    goal_served q source p =
        let y = p.proved in
        let i = y.is_instance in
        let same : passed (step_kind (goal_kind (meaning h V) g) q.source) A ≡ at_goal (premise_by read q) =
        steps_passed (goal_kind (meaning h V) g) q.source A source ∙ ap (λ z. passed (proof_kind z q.source) A) (sym (kind_resolved ∙ kind_asked)) in
        subst (λ B. IsServedFrom (meaning h V) mode (deeply_resolved c e) (read_constraints c c.constraints) B nothing (premise_by read q)) same
        (record {
          sequent = y.sequent;
          reached = y.reached;
          instance = y.instance;
          environment = one_trans _ _ _ _ i.environment (one_itself _ _ _ (sym (read_filled h V mode c s t k e g asked ke kg shallow shallow_holds q.environment p.environment)));
          predicate = one_trans _ _ _ _ i.predicate (one_itself _ _ _ (sym (read_filled h V mode c s t k e g asked ke kg shallow shallow_holds q.predicate p.predicate)));
          constraints = i.constraints;
          hidden = λ o j. ⊎_elim (λ v. v) (λ v. absurd v.1) (i.hidden o j);
          open_goals = i.open_goals;
        })

    -- a premise that is served stands
    stands_served_from : (q : Premise) → q.environment ≡ deeply_resolved c e → IsFormedTerm q.predicate
        → IsServedFrom (meaning h V) mode (deeply_resolved c e) (read_constraints c c.constraints) (at_goal q) nothing q → Follows (λ P. Stands (λ y. Unit {0}) P kind_here q)
    stands_served_from q same f served =
        let m = meaning h V in
        let e' = deeply_resolved c e in
        let cs = read_constraints c c.constraints in
        let fe = formed_here h V mode c s t k e g asked ke kg shallow shallow_holds in
        let ce = closed_here h V mode c s t k e g asked ke kg shallow shallow_holds in
        let ri = read_itself c s t k in
        ⊎_elim
        (λ keeps. from_then m mode e' cs at_goal nothing (λ P. P q) (λ P. Stands (λ y. Unit {0}) P kind_here q) (λ P z. inl (keeps, z)) (from_one m mode e' cs at_goal nothing q served))
        (λ loose. from_then m mode e' cs at_goal nothing (λ P. P q × Chooses m mode e' cs fe ce ri kind_here q q.predicate P) (λ P. Stands (λ y. Unit {0}) P kind_here q) (λ P z. inr (loose, (q.predicate, z.1, z.0)))
        (from_both m mode e' cs at_goal nothing (λ P. P q) (Chooses m mode e' cs fe ce ri kind_here q q.predicate) (λ P Q w z. w q z) (chooses_grows m mode e' cs fe ce ri kind_here q q.predicate)
        (from_one m mode e' cs at_goal nothing q served)
        (owes_from m mode e' cs at_goal nothing (Chooses m mode e' cs fe ce ri kind_here q q.predicate) (chooses_grows m mode e' cs fe ce ri kind_here q q.predicate) (chooses_itself m mode e' cs fe ce ri kind_here q q.predicate same f))))
        (keeps_or_not (statement_of q.predicate))

    goal_follows : (q : Premise) → IsCandidateFor e g d → Among d.goals q → Follows (StandsAt q)
    goal_follows q keeps i =
        let p = x.goals q i in
        let nested = keeps.goals q i in
        let none = or_false (any_label is_canonical e) (any_label is_canonical (more g empty)) asked.no_positions in
        let stays : filled x.chosen e ≡ e = filled-none x.chosen e none.0 in
        stands_served_from (premise_by read q)
        (read_filled h V mode c s t k e g asked ke kg shallow shallow_holds q.environment p.environment ∙ ap (λ y. deeply_resolved c (filled x.chosen y)) nested.environment ∙ ap (deeply_resolved c) stays)
        (read_formed h V mode c s t k e g asked ke kg shallow shallow_holds q.predicate p.predicate) (goal_served q nested.source p)

    stands_grows : (q : Premise) → Grows (meaning h V) mode (deeply_resolved c e) (read_constraints c c.constraints) (StandsAt q)
    stands_grows q P Q f y = stands_more f kind_here (premise_by read q) y

    abbrev EquatesAt : Equation → (Premise → Type 0) → Type 0
    EquatesAt = Equates h V mode c s t k e g asked ke kg shallow shallow_holds kind_here

    abbrev EquatesAll : (Premise → Type 0) → Type 0
    EquatesAll P = (q : Equation) → Among d.equations q → EquatesAt q P

    abbrev StandAll : (Premise → Type 0) → Type 0
    StandAll P = (q : Premise) → Among d.goals q → StandsAt q P

    pub candidate_follows : IsCandidateFor e g d → Follows (λ P. EquatesAll P × StandAll P)
    candidate_follows keeps =
        let m = meaning h V in
        let e' = deeply_resolved c e in
        let cs = read_constraints c c.constraints in
        from_both m mode e' cs at_goal nothing EquatesAll StandAll
        (λ P Q f y q i. equates_grows h V mode c s t k e g asked ke kg shallow shallow_holds kind_here q P Q f (y q i)) (λ P Q f y q i. stands_grows q P Q f (y q i))
        (from_all m mode e' cs at_goal nothing EquatesAt (equates_grows h V mode c s t k e g asked ke kg shallow shallow_holds kind_here) d.equations
        (λ q i. owes_from m mode e' cs at_goal nothing (EquatesAt q) (equates_grows h V mode c s t k e g asked ke kg shallow shallow_holds kind_here q) (equation_follows h V mode c s t k e g asked ke kg shallow shallow_holds kind_here q i)))
        (from_all m mode e' cs at_goal nothing StandsAt stands_grows d.goals (λ q i. goal_follows q keeps i))

    pub candidate_applies : InstancesAreRules h → IsCandidateFor e g d → Among (h.offers mode e g) d → d.certainty ≡ certain → (P : Premise → Type 0) → EquatesAll P → StandAll P
        → IsApplied (meaning h V) mode (λ y. Unit {0}) (Grants (sequent_at c e g)) (Hides (sequent_at c e g))
        (Stands (λ y. Unit {0}) P kind_here) (deeply_resolved c e) (unbound (instance_of (reading_of c s t) asked.statement))
    candidate_applies law keeps offered sure P equated stand =
        let fit : AreValuesOf d.fresh (map (instance_of (reading_of c s t)) x.chosen) = AreValuesOf-instance (reading_of c s t) d.fresh x.chosen x.values in
        record {
          use_of = use_of d e g (reading_of c s t) (map (instance_of (reading_of c s t)) x.chosen);
          applies = law.instances mode e g d (reading_of c s t) (use_of d e g (reading_of c s t) (map (instance_of (reading_of c s t)) x.chosen)) asked offered sure (record { values = fit; same = refl });
          environment = instance_of-reading c s t e ke.knows ke.formed;
          conclusion = ap (instance_of (reading_of c s t)) asked.binds_nothing;
          values = λ v i. (tt, chosen_terms h V mode c s t k e g asked ke kg shallow shallow_holds v i);
          equations = λ q i.
              (let (p, j, same) = among_mapped (equation_by read) d.equations q i in
              subst (HoldsEquation (meaning h V) (λ y. Unit {0}) (Grants (sequent_at c e g)) (Stands (λ y. Unit {0}) P kind_here) (deeply_resolved c e)) (sym same) (equated p j));
          goals = λ q i.
              (let (p, j, same) = among_mapped (premise_by read) d.goals q i in
              subst (Stands (λ y. Unit {0}) P kind_here) (sym same) (stand p j));
          constraints = λ y i.
              (let (p, j, same) = among_mapped (constraint_by read) d.constraints y i in
              subst (Grants (sequent_at c e g)) (sym same) (constraint_granted h V mode c s t k e g asked ke kg shallow shallow_holds p (x.constraints p j)));
          hidden = λ y i. absurd (none keeps y i);
          item_bounds = λ y q i j. absurd (none keeps y i);
        }
      where
        none : IsCandidateFor e g d → (y : Hidden) → Among (map (hidden_by read) d.hidden) y → ⊥
        none keeps y i =
            let (p, j, same) = among_mapped (hidden_by read) d.hidden y i in
            let no : Among [] p = subst (λ l. Among l p) keeps.no_hidden j in
            no

    -- the goal is proved under the table by the candidate
    pub from_candidate : InstancesAreRules h → IsCandidateFor e g d → Among (h.offers mode e g) d → d.certainty ≡ certain → IsProvedFrom (meaning h V) mode A c e g
    from_candidate law keeps offered sure =
        let o = candidate_follows keeps in
        let both = o.holds in
        let rule : IsRule (meaning h V) mode (λ y. Unit {0}) (Grants (sequent_at c e g)) (Hides (sequent_at c e g)) (λ q. Among o.premises q ⊎ nothing q) (deeply_resolved c e) (deeply_resolved c g) =
        inl (
          instance_of (reading_of c s t) asked.statement,
          says,
          inl (handlers_instance (reading_of c s t) asked.statement asked.handlers, candidate_applies law keeps offered sure (λ q. Among o.premises q ⊎ nothing q) both.0 both.1),
        ) in
        let terms : IsOfTerms (sequent_at c e g) = goal_terms h V mode c s t k e g asked ke kg shallow shallow_holds in
        let all = derive_all_from (meaning h V) mode (deeply_resolved c e) (read_constraints c c.constraints) A (deeply_resolved c g) o.premises o.premises o.served in
        record {
          sequent = sequent_at c e g;
          reached = inl (by_rule o.premises terms (rule_more (λ q i. ⊎_elim (λ j. inl j) (λ j. absurd j) i) (deeply_resolved c e) (deeply_resolved c g) rule) all);
          instance = itself;
          is_instance = record {
            environment = (let f = terms.formed in one_itself _ _ _ (instance_of-itself (deeply_resolved c e) f.0));
            predicate = (let f = terms.formed in let f' = f.1 in one_itself _ _ _ (instance_of-itself (deeply_resolved c g) f'.0));
            constraints = λ y i. inr (subst (Among (read_constraints c c.constraints)) (sym (read_itself c s t k y i)) i);
            hidden = λ y i. absurd i;
            open_goals = λ y i. absurd i;
          };
        }

-- .. that a lawful handler offers
pub lawful_candidate_from : (h : Handler) (V : ℕ → List Variance) (mode : Mode) (A : List Assumed) (c : Content) → IsSound c → HoldsTerms c → AreConstraintsOf c → (e g : Tree) → IsAsked e g → IsTermOf c e → IsTermOf c g
    → (d : Candidate) → IsLawfulHandler h → Among (h.offers mode e g) d → d.certainty ≡ certain → HoldsCandidateFrom (meaning h V) mode A c g d → IsProvedFrom (meaning h V) mode A c e g
lawful_candidate_from h V mode A c s t k e g asked ke kg d law offered sure x =
    from_candidate h V mode A c s t k e g asked ke kg d x law.rules (let keep = law.keep in keep.each mode e g d asked offered) offered sure
