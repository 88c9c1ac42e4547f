-- Goals of the engine's own kinds: what a table holds, their rules give.
use Rattle.std.proofs.Common.{◌≡◌, ◌⊎◌, inl, inr, ⊎_elim, List, [], refl, sym, subst, Some}
use Rattle.nts_model.specs.declared.labels.Variance.{Variance}
use Rattle.nts_model.specs.declared.labels.Relation.TheVariants as relation
use Rattle.nts_model.specs.declared.labels.ClauseHead.TheVariants as clause
use Rattle.nts_model.specs.declared.labels.Label.TheVariants as label
use Rattle.nts_model.specs.Terms.Trees.{Tree, node, more, empty, IsFormed}
use Rattle.nts_model.specs.Tables.Contents.{Content}
use Rattle.nts_model.specs.Tables.Resolving.{deeply_resolved, IsSound}
use Rattle.nts_model.specs.Terms.Regions.{IsRegion}
use Rattle.nts_model.specs.Tables.Holding.{HoldsConstraint}
use Rattle.nts_model.specs.Derivations.Related.{pair, unbound}
use Rattle.nts_model.specs.Lists.{Among}
use Rattle.nts_model.specs.Derivations.Sequents.{Premise, IsOfTerms, Grants, Hides}
use Rattle.nts_model.specs.Derivations.Rules.{Meaning, Mode, GoalKind, Stands, statement_of, relating, RelatedIn, goal_kind, IsBuiltIn, IsRule, region_lives, type_lives, formed}
use Rattle.nts_model.specs.Derivations.Proofs.{Assumed, by_rule, all_derived}
use Rattle.nts_model.specs.Derivations.Proving.{HoldsTerms, AreConstraintsOf, recorded_as, read_constraints, sequent_at}
use Rattle.nts_model.specs.Searching.Stacks.{IsProvedFrom}
use Rattle.nts_variance_model.specs.Variances.AnsweredGoals.{RelatedUnder}
use Rattle.nts_model.proofs.Terms.Composing.{itself, instance_of-itself}
use Rattle.nts_model.proofs.Terms.Identified.{one_itself}
use Rattle.nts_theory.proofs.Derivations.Served.{keeps_or_not, IsClosedEnvironment}
use Rattle.nts_theory.proofs.Derivations.Relating.{Chooses, chooses_grows, chooses_itself}
use Rattle.nts_theory.proofs.Derivations.Owing.{IsServedFrom, at_premise, derive_all_from, OwesFrom, owes_from, from_then, from_both, from_one, from_all}
use Rattle.nts_model.proofs.Terms.Unpositioned.{IsFormedTerm}
use Rattle.nts_theory.proofs.Aliases.ByRelating.{related_granted}
use Rattle.nts_theory.proofs.Derivations.Monotone.{rule_more, related_more, stands_more}
use Rattle.nts_model.proofs.Tables.Resolved.{deeply_resolved-deeply_resolved}
use Rattle.nts_theory.proofs.Derivations.ByCandidate.{granted, read_itself}

-- a goal of which a rule of the engine gives what it says, without premises
module _ (m : Meaning) (mode : Mode) (A : List Assumed) (c : Content) (s : IsSound c) (t : HoldsTerms c) (k : AreConstraintsOf c) (e g says : Tree)
    (is : deeply_resolved c g ≡ unbound says) (terms : IsOfTerms (sequent_at c e g)) where
  pub by_engine : IsBuiltIn m (λ y. Unit {0}) (Grants (sequent_at c e g)) (Stands (λ y. Unit {0}) (Among []) (goal_kind m (unbound says))) (deeply_resolved c e) says → IsProvedFrom m mode A c e g
  by_engine rule =
      let whole : IsRule m mode (λ y. Unit {0}) (Grants (sequent_at c e g)) (Hides (sequent_at c e g)) (Among []) (deeply_resolved c e) (deeply_resolved c g) = inl (says, is, inr rule) in
      record {
        sequent = sequent_at c e g;
        reached = inl (by_rule [] terms (rule_more (λ q i. inl i) (deeply_resolved c e) (deeply_resolved c g) whole) all_derived);
        instance = itself;
        is_instance = record {
          environment = (let f = terms.formed in one_itself _ _ _ (instance_of-itself (deeply_resolved c e) f.0));
          predicate = (let f = terms.formed in let f' = f.1 in one_itself _ _ _ (instance_of-itself (deeply_resolved c g) f'.0));
          constraints = λ y i. inr (subst (Among (read_constraints c c.constraints)) (sym (read_itself c s t k y i)) i);
          hidden = λ y i. absurd i;
          open_goals = λ y i. absurd i;
        };
      }

-- a goal that asks for a region constraint, which the table holds
pub region_lives_proved : (m : Meaning) (mode : Mode) (A : List Assumed) (c : Content) → IsSound c → HoldsTerms c → AreConstraintsOf c → (e g a b : Tree)
    → deeply_resolved c g ≡ unbound (node (label.Clause clause.RegionOutlives) (pair (deeply_resolved c a) (deeply_resolved c b))) → IsOfTerms (sequent_at c e g) → IsRegion (deeply_resolved c a) → IsRegion (deeply_resolved c b)
    → HoldsConstraint c (recorded_as (record { relation = relation.RegionOutlives; left = a; right = b })) → IsProvedFrom m mode A c e g
region_lives_proved m mode A c s t k e g a b is terms i j h =
    by_engine m mode A c s t k e g (node (label.Clause clause.RegionOutlives) (pair (deeply_resolved c a) (deeply_resolved c b))) is terms (region_lives i j (granted c relation.RegionOutlives a b h))

pub type_lives_proved : (m : Meaning) (mode : Mode) (A : List Assumed) (c : Content) → IsSound c → HoldsTerms c → AreConstraintsOf c → (e g a b : Tree)
    → deeply_resolved c g ≡ unbound (node (label.Clause clause.TypeOutlives) (pair (deeply_resolved c a) (deeply_resolved c b))) → IsOfTerms (sequent_at c e g) → IsRegion (deeply_resolved c b)
    → HoldsConstraint c (recorded_as (record { relation = relation.TypeOutlives; left = a; right = b })) → IsProvedFrom m mode A c e g
type_lives_proved m mode A c s t k e g a b is terms j h =
    by_engine m mode A c s t k e g (node (label.Clause clause.TypeOutlives) (pair (deeply_resolved c a) (deeply_resolved c b))) is terms (type_lives j (granted c relation.TypeOutlives a b h))

-- no open goals of the goal itself
abbrev pub no_own : Premise → Type 0
no_own q = ⊥

-- .. or from premises that are served from the assumptions
module _ (m : Meaning) (mode : Mode) (A : List Assumed) (c : Content) (s : IsSound c) (t : HoldsTerms c) (k : AreConstraintsOf c) (e g says : Tree)
    (is : deeply_resolved c g ≡ unbound says) (terms : IsOfTerms (sequent_at c e g)) (closed : IsClosedEnvironment (deeply_resolved c e)) where
  abbrev pub at_engine : Premise → List Assumed
  at_engine q = at_premise m mode (deeply_resolved c e) (read_constraints c c.constraints) A (deeply_resolved c g) q

  abbrev pub IsServedThere : Premise → Type 0
  IsServedThere q = IsServedFrom m mode (deeply_resolved c e) (read_constraints c c.constraints) (at_engine q) (λ g. ⊥) q

  abbrev pub OwesThere : ((Premise → Type 0) → Type 0) → Type 0
  OwesThere = OwesFrom m mode (deeply_resolved c e) (read_constraints c c.constraints) at_engine no_own

  abbrev pub engine_kind : GoalKind
  engine_kind = goal_kind m (unbound says)

  -- a premise that is served stands
  pub stands_there : (q : Premise) → q.environment ≡ deeply_resolved c e → IsFormedTerm q.predicate → IsServedThere q → OwesThere (λ P. Stands (λ y. Unit {0}) P engine_kind q)
  stands_there q same f served =
      let e' = deeply_resolved c e in
      let cs = read_constraints c c.constraints in
      let fe : IsFormed e' = (let x = terms.formed in x.0) in
      let ri = read_itself c s t k in
      ⊎_elim
      (λ keeps. from_then m mode e' cs at_engine no_own (λ P. P q) (λ P. Stands (λ y. Unit {0}) P engine_kind q) (λ P z. inl (keeps, z)) (from_one m mode e' cs at_engine no_own q served))
      (λ loose. from_then m mode e' cs at_engine no_own (λ P. P q × Chooses m mode e' cs fe closed ri engine_kind q q.predicate P) (λ P. Stands (λ y. Unit {0}) P engine_kind q) (λ P z. inr (loose, (q.predicate, z.1, z.0)))
      (from_both m mode e' cs at_engine no_own (λ P. P q) (Chooses m mode e' cs fe closed ri engine_kind q q.predicate) (λ P Q w z. w q z) (chooses_grows m mode e' cs fe closed ri engine_kind q q.predicate)
      (from_one m mode e' cs at_engine no_own q served)
      (owes_from m mode e' cs at_engine no_own (Chooses m mode e' cs fe closed ri engine_kind q q.predicate) (chooses_grows m mode e' cs fe closed ri engine_kind q q.predicate) (chooses_itself m mode e' cs fe closed ri engine_kind q q.predicate same f))))
      (keeps_or_not (statement_of q.predicate))

  pub by_engine_from : OwesThere (λ P. IsBuiltIn m (λ y. Unit {0}) (Grants (sequent_at c e g)) (Stands (λ y. Unit {0}) P engine_kind) (deeply_resolved c e) says) → IsProvedFrom m mode A c e g
  by_engine_from o =
      let whole : IsRule m mode (λ y. Unit {0}) (Grants (sequent_at c e g)) (Hides (sequent_at c e g)) (λ q. Among o.premises q ⊎ no_own q) (deeply_resolved c e) (deeply_resolved c g) = inl (says, is, inr o.holds) in
      let all = derive_all_from m mode (deeply_resolved c e) (read_constraints c c.constraints) A (deeply_resolved c g) o.premises o.premises o.served in
      record {
        sequent = sequent_at c e g;
        reached = inl (by_rule o.premises terms (rule_more (λ q i. ⊎_elim (λ j. inl j) (λ j. absurd j) i) (deeply_resolved c e) (deeply_resolved c g) whole) all);
        instance = itself;
        is_instance = record {
          environment = (let f = terms.formed in one_itself _ _ _ (instance_of-itself (deeply_resolved c e) f.0));
          predicate = (let f = terms.formed in let f' = f.1 in one_itself _ _ _ (instance_of-itself (deeply_resolved c g) f'.0));
          constraints = λ y i. inr (subst (Among (read_constraints c c.constraints)) (sym (read_itself c s t k y i)) i);
          hidden = λ y i. absurd i;
          open_goals = λ y i. absurd i;
        };
      }

  -- two trees that relating relates where these goals are proved
  pub relating_follows : (v : Variance) (a b : Tree) (ks : List Tree) → ((p : Tree) → Among ks p → IsFormedTerm p × IsServedThere (relating (deeply_resolved c e) p))
      → RelatedUnder m.variances c ks v a b → OwesThere (λ P. RelatedIn m (λ y. Unit {0}) (Grants (sequent_at c e g)) (Stands (λ y. Unit {0}) P engine_kind) (deeply_resolved c e) v (deeply_resolved c a) (deeply_resolved c b))
  relating_follows v a b ks served h =
      let e' = deeply_resolved c e in
      let cs = read_constraints c c.constraints in
      from_then m mode e' cs at_engine no_own (λ P. (p : Tree) → Among ks p → Stands (λ y. Unit {0}) P engine_kind (relating e' p)) _
      (λ P f. related_more (λ p i. f p i) (related_granted m.variances c s (Among ks) h (deeply_resolved-deeply_resolved c a s) (deeply_resolved-deeply_resolved c b s)))
      (from_all m mode e' cs at_engine no_own (λ p P. Stands (λ y. Unit {0}) P engine_kind (relating e' p)) (λ p P Q f y. stands_more f engine_kind (relating e' p) y) ks
      (λ p i. let x = served p i in stands_there (relating e' p) refl x.0 x.1))

-- a goal that a term is well formed, where the goals that are given for it are proved
pub formed_from : (m : Meaning) (mode : Mode) (A : List Assumed) (c : Content) (s : IsSound c) (t : HoldsTerms c) (k : AreConstraintsOf c) (e g u : Tree)
    → (is : deeply_resolved c g ≡ unbound (node (label.Clause clause.WellFormed) (more u empty))) (terms : IsOfTerms (sequent_at c e g)) (closed : IsClosedEnvironment (deeply_resolved c e))
    → (gs : List Premise) → m.well_formed_goals (deeply_resolved c e) u ≡ Some gs
    → ((q : Premise) → Among gs q → (q.environment ≡ deeply_resolved c e) × IsFormedTerm q.predicate × IsServedThere m mode A c s t k e g (node (label.Clause clause.WellFormed) (more u empty)) is terms closed q)
    → IsProvedFrom m mode A c e g
formed_from m mode A c s t k e g u is terms closed gs given served =
    (let says = node (label.Clause clause.WellFormed) (more u empty) in
    let B = at_engine m mode A c s t k e g says is terms closed in
    let kind = engine_kind m mode A c s t k e g says is terms closed in
    by_engine_from m mode A c s t k e g says is terms closed
    (from_then m mode (deeply_resolved c e) (read_constraints c c.constraints) B no_own (λ P. (q : Premise) → Among gs q → Stands (λ y. Unit {0}) P kind q) _ (λ P f. formed gs given f)
    (from_all m mode (deeply_resolved c e) (read_constraints c c.constraints) B no_own (λ q P. Stands (λ y. Unit {0}) P kind q) (λ q P Q f y. stands_more f kind q y) gs
    (λ q i. let (env, f, x) = served q i in stands_there m mode A c s t k e g says is terms closed q env f x))))
