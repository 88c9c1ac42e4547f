-- Goals that are as a handler judges: objects can be made of the first trait, so that is yes, and of no other, so that is no; a type
-- for which nothing is asked is well formed; and whether an unstable feature is allowed that no environment is known to allow is decided neither way.
use Rattle.std.proofs.Common.{◌≡◌, Some, ℕ, Bool, true, false, [], refl, sym, subst, ◌∙◌}
use Rattle.std.specs.Prelude.{◌==◌}
use Rattle.nts_model.specs.declared.labels.ClauseHead.TheVariants as clause
use Rattle.nts_model.specs.declared.labels.Leaf.{Leaf}
use Rattle.nts_model.specs.declared.labels.PredicateHead.TheVariants as predicate
use Rattle.nts_model.specs.declared.labels.TyHead.TheVariants as ty
use Rattle.nts_model.specs.declared.labels.Label.TheVariants as label
use Rattle.nts_model.specs.Terms.Trees.{Tree, empty, more, node, IsInRow}
use Rattle.nts_model.specs.Derivations.Related.{unbound}
use Rattle.nts_model.specs.Derivations.Rules.{coherence}
use Rattle.nts_model.specs.Derivations.Handlers.{Handler, never_leaks, never_at_once, no_judgements}
use Rattle.nts_theory.specs.Affirming.{has_objects, feature_allowed, by_goals, plain_way, is_well_formed, IsOwnWay}
use Rattle.nts_decisions.specs.Deciding.{blurred, IsDecidable, SaysOfRegion, IsJudged, IsJudgedGoal, IsOwnWayGoal, IsDecided, by_candidates, by_region, by_judgement, by_own_way, is_met, all_yes}
use Rattle.nts_theory.proofs.Examples.InputExamples.{no_clauses as nowhere}
use Rattle.nts_theory.proofs.Examples.ProofExamples.{no_predicates}
use Rattle.nts_decisions.proofs.AskedGoals.{by_leaves, not_empty, not_more}
use Rattle.nts_decisions.proofs.BlurredWorlds.{merged_leaf}
use Rattle.nts_decisions.proofs.DecidedOpening.{as_leaves}
use Rattle.nts_decisions.proofs.Deciding.{judged_itself, way_said}
use Rattle.nts_decisions.proofs.OwnWays.{says_way}

-- objects can be made of the first trait alone
abbrev pub first_alone : Handler
first_alone = record { applies = λ mode a. ⊥; offers = λ mode e g. []; is_coinductive = λ i. false; leaks = never_leaks; judges = record no_judgements { is_dyn_compatible = λ i. i == 0 }; at_once = never_at_once }

abbrev pub objects_of : ℕ → Tree
objects_of i = node (label.Predicate (predicate.DynCompatible i)) empty

-- no region stands in what says so
objects_raw : (f : Leaf → Leaf) (i : ℕ) (s : Tree) → by_leaves f s ≡ objects_of i → s ≡ objects_of i
objects_raw f i (node (label.Predicate (predicate.DynCompatible k)) empty) e = e
objects_raw f i (node (label.Predicate (predicate.DynCompatible k)) (node l c)) e = absurd (not_empty f l (by_leaves f c) (cc e))
objects_raw f i (node (label.Leaf x) c) e = absurd (cc e)
objects_raw f i s e = absurd (cc e)

objects_blurred : (i : ℕ) (s : Tree) → blurred s ≡ objects_of i → s ≡ objects_of i
objects_blurred i s e = objects_raw merged_leaf i s (sym (as_leaves s) ∙ e)

judged_first : (b : Bool) (i : ℕ) → ((f : Tree) → IsJudged first_alone.judges f (objects_of i) b) → IsJudgedGoal first_alone nowhere (unbound (objects_of i)) b
judged_first b i so =
    record {
      statement = objects_of i;
      binds_nothing = refl;
      alike = λ f s k ee es. subst (λ z. IsJudged first_alone.judges f z b) (sym (objects_blurred i s es)) (so f);
      formed = ((tt, tt), (((refl, (refl, tt)), ((tt, tt), ((tt, tt), tt))), tt));
      closed = ((tt, tt), ((tt, tt), tt));
      statements = λ ps p e i. absurd (subst (IsInRow p) (no_predicates ps e) i);
      no_infer = refl;
      blurred_environment = refl;
      blurred = refl;
    }

pub first_is_yes : IsDecided first_alone coherence nowhere 0 (unbound (objects_of 0)) true
first_is_yes = by_judgement (judged_first true 0 (λ f. has_objects refl))

pub second_is_no : IsDecided first_alone coherence nowhere 0 (unbound (objects_of 1)) false
second_is_no = by_judgement (judged_first false 1 (λ f. record { of_trait = 1; is = refl; has_none = refl }))

-- where a handler names no goals for what is well formed, a type is
abbrev pub names_none : Handler
names_none = record first_alone { judges = record no_judgements { well_formed = λ e t. Some [] } }

abbrev error : Tree
error = node (label.Ty ty.Error) empty

record SaysFormed (s : Tree) : Type 0 where
  pub term : Tree
  pub is : s ≡ is_well_formed term

formed_raw : (f : Leaf → Leaf) (s t : Tree) → by_leaves f s ≡ is_well_formed t → SaysFormed s
formed_raw f (node (label.Clause clause.WellFormed) (more a empty)) t e = record { term = a; is = refl }
formed_raw f (node (label.Clause clause.WellFormed) (more a (node l c))) t e = absurd (not_empty f l (by_leaves f c) (cc e))
formed_raw f (node (label.Clause clause.WellFormed) (node l c)) t e = absurd (not_more f l (by_leaves f c) t empty (cc e))
formed_raw f s t e = absurd (cc e)

error_in_one_way : IsOwnWayGoal names_none nowhere (unbound (is_well_formed error)) (plain_way [] [])
error_in_one_way =
    record {
      statement = is_well_formed error;
      binds_nothing = refl;
      alike = λ f s k ee es.
          (let x = formed_raw merged_leaf s error (sym (as_leaves s) ∙ es) in
          record { way = plain_way [] []; is_way = subst (λ z. IsOwnWay (let h = names_none in h.judges) f z (plain_way [] [])) (sym x.is) (by_goals refl); same = refl });
      way = record { equations = λ q i. absurd i; no_aliases = λ q i. absurd i; goals = λ q i. absurd i };
      formed = ((tt, tt), (((refl, (refl, tt)), ((tt, tt), ((((λ e. cc e), tt), ((tt, tt), tt)), tt))), tt));
      closed = ((tt, tt), ((tt, ((tt, tt), tt)), tt));
      statements = λ ps p e i. absurd (subst (IsInRow p) (no_predicates ps e) i);
      no_alias = refl;
      no_infer = refl;
      blurred_environment = refl;
      blurred = refl;
    }

pub error_is_formed : IsDecided names_none coherence nowhere 0 (unbound (is_well_formed error)) true
error_is_formed = by_own_way (plain_way [] []) error_in_one_way (is_met [] (record { values = tt; equal = λ q i. absurd i }) (λ vs us p m n i. absurd i) all_yes)

-- a feature that is not allowed
abbrev pub allows_first : Tree
allows_first = node (label.Clause (clause.UnstableFeature 0)) empty

states_it : (s : Tree) → unbound allows_first ≡ unbound s → allows_first ≡ s
states_it s q = cc q

not_judged : (b : Bool) → IsJudged first_alone.judges nowhere allows_first b → ⊥
not_judged true (feature_allowed x) = (let z : false ≡ true = x in cc z)
not_judged false d = (let e = d.is in cc e)

pub feature_is_undecided : (n : ℕ) (b : Bool) → IsDecided first_alone coherence nowhere n (unbound allows_first) b → ⊥
feature_is_undecided n b (by_candidates xs p u o) = (let a = p.asked in subst IsDecidable (sym (states_it a.statement a.binds_nothing)) p.kind)
feature_is_undecided n b (by_region y) = subst SaysOfRegion (sym (states_it y.statement y.binds_nothing)) y.says
feature_is_undecided n b (by_judgement y) = not_judged b (subst (λ z. IsJudged first_alone.judges nowhere z b) (sym (states_it y.statement y.binds_nothing)) (judged_itself first_alone nowhere (unbound allows_first) b y))
feature_is_undecided n b (by_own_way x y c) = subst says_way (sym (states_it y.statement y.binds_nothing)) (way_said first_alone nowhere (unbound allows_first) x y)
