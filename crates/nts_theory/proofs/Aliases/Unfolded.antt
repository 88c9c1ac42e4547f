-- A settled proof of a goal of relating settles its sides; and what is related by settled proofs settles.
use Rattle.std.proofs.Common.{◌≡◌, ◌⊎◌, inl, inr, ⊎_elim, ℕ, zero, suc, ◌<◌, Bool, Some, List, [], ◌∷◌, refl, sym, ap, ◌∙◌, arith, subst}
use Rattle.nts_model.specs.declared.labels.Variance.{Variance}
use Rattle.nts_model.specs.declared.labels.Variance.TheVariants as variance
use Rattle.nts_model.specs.declared.labels.Relation.TheVariants as relation
use Rattle.nts_model.specs.declared.labels.AliasRelationDirection.{AliasRelationDirection}
use Rattle.nts_model.specs.declared.labels.AliasRelationDirection.TheVariants as direction
use Rattle.nts_model.specs.declared.labels.PredicateHead.{PredicateHead}
use Rattle.nts_model.specs.declared.labels.PredicateHead.TheVariants as predicate
use Rattle.nts_model.specs.declared.labels.ClauseHead.TheVariants as clause
use Rattle.nts_model.specs.declared.labels.ListHead.TheVariants as list
use Rattle.nts_model.specs.declared.labels.AliasHead.{AliasHead}
use Rattle.nts_model.specs.declared.labels.Label.TheVariants as label
use Rattle.nts_model.specs.Terms.Trees.{Tree, empty, more, node, kind_of, one_sort, is, AllFit, IsRow, IsClosed, IsFormed}
use Rattle.nts_model.specs.Tables.Alike.{Alike, one_label, two_rows}
use Rattle.nts_model.specs.Tables.Alike.{one_tree as alike_tree}
use Rattle.nts_model.specs.Tables.Alike.{two_regions as alike_regions}
use Rattle.std.specs.Prelude.{map}
use Rattle.nts_model.specs.Terms.Substitutions.{Instance, instance_of}
use Rattle.nts_model.specs.Derivations.Related.{Constraint, region_constraint, pair, no_sorts, unbound, alias_goal, subtype_goal, alias, IsAlias, Related, AreRelatedByArgument, one_tree, regions, constructors, functions, values, open_aliases, aliases, subtypes, no_more, and_more}
use Rattle.nts_model.specs.Lists.{Among}
use Rattle.nts_model.specs.Derivations.Sequents.{Source, Premise, Sequent, inductive, type_relating, normalize_goal, AreOneBy, IsTrivial, constraint_under, premise_under, Grants, IsInstance}
use Rattle.nts_model.specs.Derivations.Rules.{Meaning, Mode, strictly, GoalKind, coinductive_trait, statement_kind, goal_kind, normalization, other_goal, IsCoinductiveStep, choice, IsTerm, Replaced, chosen, kept_empty, kept_more, kept_node, Stands, IsResult, relating, statement_of, KeepsAliases, normalization_goal, variance_of, IsRule}
use Rattle.nts_model.specs.Derivations.Proofs.{Node, Step, RestsOn, reopened, Serves}
use Rattle.nts_variance_model.specs.Variances.Judging.{Judging, AllStand, IsSettled, IsValueOf, Normalizes, Along, Settles, AllSettle, IsLawfulJudging}
use Rattle.nts_variance_model.specs.Variances.SettledProofs.{StandsForItself, IsSettledIn, IsReached, IsAfter, start, onward, GrantsAt, HidesAt, RestsOnAt, SettledNode, ProvesSettled, NormalizesSettled, judging}
use Rattle.nts_model.proofs.Terms.Composing.{after, instance_of-after, IsFormed-instance}
use Rattle.nts_model.proofs.Tables.AliasLabels.{not_alias}
use Rattle.nts_theory.proofs.Derivations.Monotone.{rule_more}
use Rattle.nts_theory.proofs.Aliases.Weakening.{rule_weaker}
use Rattle.nts_model.proofs.Terms.Identified.{one_at}
use Rattle.nts_theory.proofs.Derivations.ProofInstances.{IsTrivial-under}
use Rattle.nts_variance_model.proofs.Variances.Settling.{replaced_closed, normalizes_itself, normalized_settled}
use Rattle.nts_variance_model.proofs.Variances.Alongside.{along_one, along_arguments}
use Rattle.nts_variance_model.proofs.Variances.SettleRows.{settles_itself, settle_regions, settle_constructors, settle_functions, settle_values, settle_open, settle_row, settle_no_row, settles_turned, settled_normalizes, settled_along, alias_value, node_forward, more_forward, empty_forward}
use Rattle.nts_theory.proofs.Aliases.Unfolding.{unfold_alias, unfold_subtype}

-- steps from a reached node
pub reached_on : (m : Meaning) (nodes : List Node) (a b : Node) (ι κ : Instance) → IsReached m nodes a ι b κ → (n : Node) (μ : Instance) → IsReached m nodes b κ n μ → IsReached m nodes a ι n μ
reached_on m nodes a b ι κ r n μ start = r
reached_on m nodes a b ι κ r n μ (onward {n = x} {κ = ν} s to both before i f) = onward s to both (reached_on m nodes a b ι κ r x ν before) i f

-- what stands in a list stands in the list of its images
among_image : {A B : Type 0} (f : A → B) (xs : List A) (x : A) → Among xs x → Among (map f xs) (f x)
among_image f [] x i = absurd i
among_image f (y ∷ xs) x i = ⊎_elim (λ e. inl (ap f e)) (λ j. inr (among_image f xs x j)) i

among_source : {A B : Type 0} (f : A → B) (xs : List A) (y : B) → Among (map f xs) y → (x : A) × Among xs x × (f x ≡ y)
among_source f [] y i = absurd i
among_source f (x ∷ xs) y i = ⊎_elim (λ e. (x, inl refl, sym e)) (λ j. let r = among_source f xs y j in (r.0, inr r.1, r.2)) i

alike_same : (R : Tree → Tree → Type 0) → ((x y : Tree) → R x y → x ≡ y) → (a b : Tree) → Alike R a b → a ≡ b
alike_same R f a b alike_tree = refl
alike_same R f a b (alike_regions i j r) = f a b r
alike_same R f _ _ (one_label {l = l} {c = c} {d = d} n al) = ap (node l) (alike_same R f c d al)
alike_same R f _ _ (two_rows {a = a} {b = b} {c = c} {d = d} al bl) = let x = alike_same R f a c al in let y = alike_same R f b d bl in cc (x, y)

-- the sorts of a binder hold no alias
sort_settled : (S : Tree → Type 0) (a : Tree) → kind_of a ≡ Some one_sort → IsFormed a → AllStand S a
sort_settled S empty e f = cc
sort_settled S (more a b) e f = cc
sort_settled S (node (label.List (list.Sort x)) empty) e f = ((λ i. absurd (not_alias (label.List (list.Sort x)) empty refl i)), tt)
sort_settled S (node (label.List (list.Sort x)) (more a b)) e f = absurd f.0
sort_settled S (node (label.List (list.Sort x)) (node l c)) e f = absurd f.0
sort_settled S (node (label.List list.Args) c) e f = cc
sort_settled S (node (label.List list.Env) c) e f = cc
sort_settled S (node (label.List list.Sorts) c) e f = cc
sort_settled S (node (label.List list.Binder) c) e f = cc
sort_settled S (node (label.Leaf x) c) e f = cc
sort_settled S (node (label.Bound x i n) c) e f = cc
sort_settled S (node (label.Ty x) c) e f = cc
sort_settled S (node (label.Const x) c) e f = cc
sort_settled S (node (label.Clause x) c) e f = cc
sort_settled S (node (label.Predicate x) c) e f = cc

sorts_settled : (S : Tree → Type 0) (ss : Tree) → AllFit (is one_sort) ss → IsFormed ss → AllStand S ss
sorts_settled S empty h f = tt
sorts_settled S (more a b) h f = (sort_settled S a h.0 f.0, sorts_settled S b h.1 f.1)
sorts_settled S (node l c) h f = absurd h

-- a goal that normalizes an alias does so at each instance
statement_kept : (m : Meaning) (f : Instance) (s : Tree) → statement_kind m.is_coinductive s ≡ normalization → statement_kind m.is_coinductive (instance_of f s) ≡ normalization
statement_kept m f (node (label.Predicate (predicate.NormalizesTo i)) ts) e = refl
statement_kept m f (node (label.Clause (clause.Trait i)) ts) e = e
statement_kept m f s e = cc

normalization_kept : (m : Meaning) (f : Instance) (p : Tree) → goal_kind m p ≡ normalization → goal_kind m (instance_of f p) ≡ normalization
normalization_kept m f (node (label.List list.Binder) (more v (more s empty))) e = statement_kept m f s e
normalization_kept m f p e = cc

-- constraints that are true
pub record IsTruth (Holds : Constraint → Type 0) : Type 0 where
  pub one : (a b : Tree) → Holds (region_constraint variance.Invariant a b) → a ≡ b
  pub trivial : (x : Constraint) → IsTrivial x → Holds x

module _ (m : Meaning) (mode : Mode) (Holds : Constraint → Type 0) (truth : IsTruth Holds) where
  -- the node of a step, at the composed instance
  pub record Stepped (p : SettledNode m mode Holds) (q : Premise) : Type 0 where
    pub proves : ProvesSettled m mode Holds q.environment q.predicate
    pub descends : IsCoinductiveStep (goal_kind m p.node.sequent.predicate) q.source ⊎ (proves.proof.node.rank < p.node.rank)
    pub open_goals : (g : Premise) → Among proves.proof.node.sequent.open_goals g → RestsOnAt m p.node p.at (record { source = type_relating; environment = instance_of proves.proof.at g.environment; predicate = instance_of proves.proof.at g.predicate })

  grants_true : (p : SettledNode m mode Holds) (x : Constraint) → GrantsAt p.node p.at x → Holds x
  grants_true p x g = ⊎_elim (λ t. truth.trivial x t) (λ y. subst Holds y.2 (p.true y.0 y.1)) g

  -- trees that are one up to regions are one tree at an instance that makes the hypotheses true
  pub one_where_true : (κ : Instance) (xs : List Constraint) (s t : Tree) → ((x : Constraint) → Among xs x → Holds (constraint_under κ x)) → AreOneBy xs s t → instance_of κ s ≡ instance_of κ t
  one_where_true κ xs s t h = one_at κ xs s t (λ x i e. sides x e (h x i))
    where
      sides : (x : Constraint) → x.relation ≡ relation.Equal → Holds (constraint_under κ x) → instance_of κ x.left ≡ instance_of κ x.right
      sides x e k = truth.one (instance_of κ x.left) (instance_of κ x.right) (subst (λ r. Holds (record { relation = r; left = instance_of κ x.left; right = instance_of κ x.right })) e k)

  -- the hypotheses of a sequent are true at an instance
  abbrev pub AreTrueAt : Sequent → Instance → Type 0
  AreTrueAt t κ = (x : Constraint) → Among t.constraints x → Holds (constraint_under κ x)

  grants_where_true : (κ : Instance) (t : Sequent) (x : Constraint) → AreTrueAt t κ → Grants t x → Holds (constraint_under κ x)
  grants_where_true κ t x true g = ⊎_elim (λ i. truth.trivial (constraint_under κ x) (IsTrivial-under κ x i)) (λ i. true x i) g

  -- .. and so are those of a sequent whose instance is another one's, or serves a premise there; its goal is the other's
  pub record IsGoalAt (t : Sequent) (both κ : Instance) (e g : Tree) : Type 0 where
    pub true : AreTrueAt t both
    pub environment : instance_of both t.environment ≡ instance_of κ e
    pub predicate : instance_of both t.predicate ≡ instance_of κ g

  goal_at : (t u : Sequent) (ι κ both : Instance) (e g : Tree) → AreTrueAt u κ → IsAfter κ ι both → AreOneBy u.constraints (instance_of ι t.environment) e → AreOneBy u.constraints (instance_of ι t.predicate) g
      → ((x : Constraint) → Among t.constraints x → Grants u (constraint_under ι x)) → IsGoalAt t both κ e g
  goal_at t u ι κ both e g true composed environment predicate grants =
      record {
        true = λ x i. (let h = grants_where_true κ u (constraint_under ι x) true (grants x i) in subst Holds (constraint_composed x) h);
        environment = composed t.environment ∙ one_where_true κ u.constraints (instance_of ι t.environment) e true environment;
        predicate = composed t.predicate ∙ one_where_true κ u.constraints (instance_of ι t.predicate) g true predicate;
      }
    where
      constraint_composed : (x : Constraint) → constraint_under κ (constraint_under ι x) ≡ constraint_under both x
      constraint_composed x = let l = composed x.left in let r = composed x.right in rw (l, r) refl

  pub served_where_true : {Rests : Premise → Type 0} (t u : Sequent) (ι κ both : Instance) (q : Premise) → AreTrueAt u κ → IsAfter κ ι both → Serves u Rests ι t q → IsGoalAt t both κ q.environment q.predicate
  served_where_true t u ι κ both q true composed v = goal_at t u ι κ both q.environment q.predicate true composed v.environment v.predicate v.constraints

  pub instance_where_true : (t u : Sequent) (ι κ both : Instance) → AreTrueAt u κ → IsAfter κ ι both → IsInstance ι t u → IsGoalAt t both κ u.environment u.predicate
  instance_where_true t u ι κ both true composed v = goal_at t u ι κ both u.environment u.predicate true composed v.environment v.predicate v.constraints

  -- so the hypotheses of each reached node are true where it is reached
  pub reached_true : (p : SettledNode m mode Holds) (n : Node) (κ : Instance) → IsReached m p.nodes p.node p.at n κ → AreTrueAt n.sequent κ
  reached_true p n κ start = p.true
  reached_true p n κ (onward {n = x} {κ = ν} s to both before i f) =
      let r = served_where_true to.node.sequent x.sequent s.instance ν both s.premise (reached_true p x ν before) f to.serves in r.true

  -- what a node rests on, at its instance
  rests_at : (p : SettledNode m mode Holds) (q : Premise) → RestsOn m p.node q → RestsOnAt m p.node p.at (premise_under p.at q)
  rests_at p q r = ⊎_elim
      (λ x. inl (x.0, x.1, ap (premise_under p.at) x.2))
      (λ x. inr (normalization_kept m p.at p.node.sequent.predicate x.0, (q, x.1, refl))) r

  pub step_on : (p : SettledNode m mode Holds) (s : Step) → Among p.node.steps s → Stepped p (premise_under p.at s.premise)
  step_on p s i =
      let r = p.ranked in
      let t = r.steps p.node s p.found i in
      let v = t.serves in
      let both = after p.at s.instance in
      let there : IsReached m p.nodes p.node p.at t.node both = onward s t both start i (λ x. instance_of-after p.at s.instance x) in
      let goal = served_where_true t.node.sequent p.node.sequent s.instance p.at both s.premise p.true (λ x. instance_of-after p.at s.instance x) v in
      record {
        proves = record {
          proof = record {
            nodes = p.nodes;
            node = t.node;
            at = both;
            found = t.found;
            ranked = p.ranked;
            settled = λ n κ z. p.settled n κ (reached_on m p.nodes p.node t.node p.at both there n κ z);
            true = goal.true;
          };
          environment = goal.environment;
          predicate = goal.predicate;
        };
        descends = t.descends;
        open_goals = λ g k. (let r = rests_at p (reopened s.instance g) (v.open_goals g k) in
            subst (λ z. RestsOnAt m p.node p.at (record { source = type_relating; environment = z; predicate = instance_of both g.predicate })) (sym (instance_of-after p.at s.instance g.environment))
            (subst (λ z. RestsOnAt m p.node p.at (record { source = type_relating; environment = instance_of p.at (instance_of s.instance g.environment); predicate = z })) (sym (instance_of-after p.at s.instance g.predicate)) r));
      }

  -- a premise of a goal that normalizes nothing
  pub premise_on : (p : SettledNode m mode Holds) (q : Premise) → (goal_kind m (instance_of p.at p.node.sequent.predicate) ≡ normalization → ⊥) → RestsOnAt m p.node p.at q → Stepped p q
  premise_on p q other r = ⊎_elim
      (λ x. subst (Stepped p) x.2 (step_on p x.0 x.1))
      (λ x. absurd (other x.0)) r

  -- what is proved is a formed term
  pub proved_formed : (e g : Tree) → ProvesSettled m mode Holds e g → IsFormed g
  proved_formed e g p =
      let n = p.proof in
      let r = n.ranked in
      let j = r.justified n.node n.found in
      let t = j.terms in
      let f = t.formed in
      let here : IsFormed (instance_of n.at n.node.sequent.predicate) = IsFormed-instance n.at n.node.sequent.predicate f.1.0 in
      subst IsFormed p.predicate here

  -- the rule by which it is proved
  pub proved_follows : (e g : Tree) (p : ProvesSettled m mode Holds e g) → IsRule (strictly m) mode (IsSettledIn m mode e) (GrantsAt p.proof.node p.proof.at) (HidesAt p.proof.node p.proof.at) (RestsOnAt m p.proof.node p.proof.at) e g
  proved_follows e g p =
      let n = p.proof in
      let r = n.settled n.node n.at start in
      subst (λ z. IsRule (strictly m) mode (IsSettledIn m mode e) (GrantsAt n.node n.at) (HidesAt n.node n.at) (RestsOnAt m n.node n.at) e z) p.predicate
      (subst (λ z. IsRule (strictly m) mode (IsSettledIn m mode z) (GrantsAt n.node n.at) (HidesAt n.node n.at) (RestsOnAt m n.node n.at) z (instance_of n.at n.node.sequent.predicate)) p.environment r)

  module _ (e : Tree) where
    abbrev J : Judging
    J = judging m mode Holds e

    -- what settled proofs judge is lawful
    judged_alone : (a v : Tree) → StandsForItself m mode e a → NormalizesSettled m mode Holds e a v → v ≡ a
    judged_alone a v s n =
        let p = n.proves in
        let q = p.proof in
        let cs = map (constraint_under q.at) q.node.sequent.constraints in
        let r = proved_follows e (normalization_goal n.head n.parts v) p in
        let weak = rule_weaker {G = IsSettledIn m mode e} {G' = λ t. Unit {0}} {H = GrantsAt q.node q.at} {H' = λ x. IsTrivial x ⊎ Among cs x} {D = HidesAt q.node q.at} {D' = λ h. Unit {0}}
        (λ t x. tt) (λ x g. ⊎_elim (λ t. inl t) (λ y. inr (subst (Among cs) y.2 (among_image (constraint_under q.at) q.node.sequent.constraints y.0 y.1))) g) (λ o x. tt) e (normalization_goal n.head n.parts v) r in
        let free = rule_more {P' = λ x. Unit {0}} (λ x y. tt) e (normalization_goal n.head n.parts v) weak in
        let al = s.alone n.head n.parts v cs n.is free in
        alike_same (λ x y. Among cs (region_constraint variance.Invariant x y))
        (λ x y i. (let z = among_source (constraint_under q.at) q.node.sequent.constraints (region_constraint variance.Invariant x y) i in truth.one x y (subst Holds z.2 (q.true z.0 z.1)))) v a al

    trivial_region : (v : Variance) (a : Tree) → Holds (region_constraint v a a)
    trivial_region variance.Invariant a = truth.trivial (region_constraint variance.Invariant a a) refl
    trivial_region variance.Covariant a = truth.trivial (region_constraint variance.Covariant a a) refl
    trivial_region variance.Contravariant a = truth.trivial (region_constraint variance.Contravariant a a) refl

    pub judging_lawful : IsLawfulJudging J
    judging_lawful = record { one = truth.one; trivial = trivial_region; alone = judged_alone; kind = λ a v n. n.kind }

    -- premises of relating settle their sides
    pub record Premises (K : Premise → Type 0) : Type 0 where
      pub alias_settles : (v : Variance) (a b : Tree) → IsAlias a ⊎ IsAlias b → IsClosed a → IsClosed b → K (relating e (alias_goal v a b)) → Settles J v a b
      pub subtype_settles : (x : Bool) (v : Variance) (a b : Tree) → (v ≡ variance.Invariant → ⊥) → IsClosed a → IsClosed b → K (relating e (subtype_goal x v a b)) → Settles J v a b

    module _ (H : Constraint → Type 0) (holds : (x : Constraint) → H x → Holds x) (K : Premise → Type 0) (premises : Premises K) where
      mutual
        pub related_settles : {v : Variance} {a b : Tree} → Related m.variances (IsSettled J) H (λ g. K (relating e g)) v a b → IsFormed a → Settles J v a b
        related_settles (one_tree {v = v} {t = t} s) f = settles_itself J judging_lawful v t s
        related_settles (regions {v = v} {a = a} {b = b} i j h) f = settle_regions J judging_lawful v a b i j (holds (region_constraint v a b) h)
        related_settles (constructors {v = v} {i = i} {ts = ts} {us = us} rs) f = settle_constructors J judging_lawful v i ts us (rows_settle rs f.1.0.1)
        related_settles (functions {v = v} {sorts = ss} {ts = ts} {us = us} rs) f =
            settle_functions J judging_lawful v ss ts us (sorts_settled (StandsForItself m mode e) ss f.1.0.0 f.1.0.1) (let r = related_rows rs in r.0) (rows_settle rs f.1.1.0.1)
        related_settles (values {v = v} {b = b} {t = t} {u = u} r) f = settle_values J judging_lawful v b t u (related_settles r f.1.0)
        related_settles (open_aliases {v = v} {ts = ts} {us = us} h i j rs) f = settle_open J judging_lawful v h ts us i j (rows_settle rs f.1.0.1)
        related_settles (aliases {v = v} {a = a} {b = b} side i j k) f = premises.alias_settles v a b side i j k
        related_settles (subtypes {v = v} {a = a} {b = b} x n p q i j k) f = premises.subtype_settles x v a b n i j k

        pub rows_settle : {v : Variance} {ws : List Variance} {ts us : Tree} → AreRelatedByArgument m.variances (IsSettled J) H (λ g. K (relating e g)) v ws ts us → IsFormed ts → AllSettle J v ws ts us
        rows_settle (no_more {v = v} {ws = ws}) f = settle_no_row J judging_lawful v ws
        rows_settle (and_more {v = v} {ws = ws} {a = a} {b = b} {ts = ts} {us = us} r rs) f = settle_row J judging_lawful v ws a b ts us (related_settles r f.0) (rows_settle rs f.1)

        related_rows : {v : Variance} {ws : List Variance} {ts us : Tree} → AreRelatedByArgument m.variances (IsSettled J) H (λ g. K (relating e g)) v ws ts us → IsRow ts × IsRow us
        related_rows no_more = (tt, tt)
        related_rows (and_more r rs) = related_rows rs

    -- results of AliasRelate
    alias_keeps : (v : Variance) (a b : Tree) → KeepsAliases (statement_of (alias_goal v a b))
    alias_keeps variance.Invariant a b = tt
    alias_keeps variance.Covariant a b = tt
    alias_keeps variance.Contravariant a b = tt

    subtype_keeps : (x : Bool) (v : Variance) (a b : Tree) → KeepsAliases (statement_of (subtype_goal x v a b)) → ⊥
    subtype_keeps x variance.Invariant a b h = h
    subtype_keeps x variance.Covariant a b h = h
    subtype_keeps x variance.Contravariant a b h = h

    -- a premise that keeps its aliases stands as it is
    stands_kept : (G : Tree → Type 0) (P : Premise → Type 0) (k : GoalKind) (q : Premise) → KeepsAliases (statement_of q.predicate) → Stands G P k q → P q
    stands_kept G P k q keeps s = ⊎_elim (λ x. x.1) (λ x. absurd (x.0 keeps)) s

    module _ (p : SettledNode m mode Holds) (k : GoalKind) (other : goal_kind m (instance_of p.at p.node.sequent.predicate) ≡ normalization → ⊥) where
      abbrev At : Premise → Type 0
      At = Stands (IsSettled J) (RestsOnAt m p.node p.at) k

      -- the result of a side: a formed tree, settled where it is closed and an alias, to which the side normalizes
      record ResultAt (a r : Tree) : Type 0 where
        formed : IsFormed r
        closed : IsClosed r
        settled : IsAlias r → IsSettled J r
        on : (u : Tree) → Normalizes J r u → Normalizes J a u

      result_at : (a r : Tree) → IsFormed a → IsClosed a → IsResult (IsSettled J) At e a r → ResultAt a r
      result_at a r f c (inl x) =
          record {
            formed = subst IsFormed (sym x.0) f;
            closed = subst IsClosed (sym x.0) c;
            settled = λ i. subst (IsSettled J) (sym x.0) (x.1 (subst IsAlias x.0 i));
            on = λ u n. subst (λ z. Normalizes J z u) x.0 n;
          }
      result_at a r f c (inr (found, term, good, holds, kinds)) =
          let q = stands_kept (IsSettled J) (RestsOnAt m p.node p.at) k (relating e (normalization_goal found.head found.parts r)) tt holds in
          let z = premise_on p (relating e (normalization_goal found.head found.parts r)) other q in
          let w = z.proves in
          let g : IsFormed (normalization_goal found.head found.parts r) = proved_formed e (normalization_goal found.head found.parts r) w in
          record {
            formed = g.1.1.0.1.1.0;
            closed = term.closed;
            settled = λ i. good;
            on = λ u n. (let same = normalizes_itself J judging_lawful r u good n in
                subst (Normalizes J a) (sym same) (chosen found term.closed (good, inr (record { head = found.head; parts = found.parts; is = found.is; proves = w; open_goals = λ g i. (let y = premise_on p (record { source = type_relating; environment = instance_of w.proof.at g.environment; predicate = instance_of w.proof.at g.predicate }) other (z.open_goals g i) in y.proves); kind = kinds }))));
          }

    -- replaced trees, with what is known of an alias and its value
    replaced_known : (C D : Tree → Tree → Type 0) (t u : Tree) → ((a v : Tree) → IsAlias a → IsClosed v → C a v → D a v) → Replaced C t u → Replaced D t u
    replaced_known C D t u f (chosen found closed x) = chosen found closed (f t u found closed x)
    replaced_known C D t u f kept_empty = kept_empty
    replaced_known C D t u f (kept_more {a = a} {b = b} {s = x} {t = y} p q) = kept_more (replaced_known C D a b f p) (replaced_known C D x y f q)
    replaced_known C D t u f (kept_node {l = l} {c = c} {d = d} none p) = kept_node none (replaced_known C D c d f p)

    record GoalForward (h : PredicateHead) (a b u : Tree) : Type 0 where
      left : Tree
      right : Tree
      same : u ≡ unbound (node (label.Predicate h) (pair left right))
      of_left : Normalizes J a left
      of_right : Normalizes J b right

    goal_forward : (h : PredicateHead) (a b u : Tree) → Normalizes J (unbound (node (label.Predicate h) (pair a b))) u → GoalForward h a b u
    goal_forward h a b u p =
        let law = judging_lawful in
        let s = node (label.Predicate h) (pair a b) in
        let n = node_forward J law (label.List list.Binder) (pair no_sorts s) u (not_alias (label.List list.Binder) (pair no_sorts s) refl) p in
        let m1 = more_forward J law no_sorts (more s empty) n.parts n.normalizes in
        let n1 = node_forward J law (label.List list.Sorts) empty m1.first (not_alias (label.List list.Sorts) empty refl) m1.of_first in
        let e1 = empty_forward J law n1.parts n1.normalizes in
        let m2 = more_forward J law s empty m1.rest m1.of_rest in
        let e2 = empty_forward J law m2.rest m2.of_rest in
        let n2 = node_forward J law (label.Predicate h) (pair a b) m2.first (not_alias (label.Predicate h) (pair a b) refl) m2.of_first in
        let m3 = more_forward J law a (more b empty) n2.parts n2.normalizes in
        let m4 = more_forward J law b empty m3.rest m3.of_rest in
        let e4 = empty_forward J law m4.rest m4.of_rest in
        let i0 = n.is in let i1 = m1.is in let i2 = n1.is in let i3 = m2.is in let i4 = n2.is in let i5 = m3.is in let i6 = m4.is in
        record { left = m3.first; right = m4.first; same = cc; of_left = m3.of_first; of_right = m4.of_first }

    -- two results that are aliases of one head
    heads_settle : (v : Variance) (a b r s : Tree) (h : AliasHead) (ts us : Tree) → r ≡ alias h ts → s ≡ alias h us → IsClosed r → IsClosed s → (IsAlias r → IsSettled J r) → (IsAlias s → IsSettled J s)
        → ((u : Tree) → Normalizes J r u → Normalizes J a u) → ((u : Tree) → Normalizes J s u → Normalizes J b u) → AllSettle J v [] ts us ⊎ AllSettle J v [] us ts → Settles J v a b
    heads_settle v a b r s h ts us p q cr cs sr ss on_left on_right rows =
        let ra = sr (record { head = h; parts = ts; is = p; closed = cr }) in
        let sa = ss (record { head = h; parts = us; is = q; closed = cs }) in
        let st : IsSettled J ts = (let x : IsSettled J (alias h ts) = subst (IsSettled J) p ra in x.1.0.1) in
        let su : IsSettled J us = (let x : IsSettled J (alias h us) = subst (IsSettled J) q sa in x.1.0.1) in
        let one = heads_one r s h ts us p q ra sa (⊎_elim (λ x. rows_one v ts us x st su) (λ x. sym (rows_one v us ts x su st)) rows) in
        record {
          left = r;
          right = s;
          of_left = on_left r (settled_normalizes J judging_lawful r ra);
          of_right = on_right s (settled_normalizes J judging_lawful s sa);
          along = subst (Along J v r) one (one_tree ra);
        }
      where
        rows_one : (v : Variance) (ts us : Tree) → AllSettle J v [] ts us → IsSettled J ts → IsSettled J us → ts ≡ us
        rows_one v ts us rows x y =
            let el : rows.left ≡ ts = normalizes_itself J judging_lawful ts rows.left x rows.of_left in
            let er : rows.right ≡ us = normalizes_itself J judging_lawful us rows.right y rows.of_right in
            let mid : rows.left ≡ rows.right = along_arguments J judging_lawful refl rows.along in
            cc (el, er, mid)

        heads_one : (r s : Tree) (h : AliasHead) (ts us : Tree) → r ≡ alias h ts → s ≡ alias h us → IsSettled J r → IsSettled J s → ts ≡ us → r ≡ s
        heads_one r s h ts us p q x y e = let z : alias h ts ≡ alias h us = ap (alias h) e in cc (p, q, z)

    -- a step to a goal of relating, or to the value of an alias in one, is not coinductive
    relating_falls : (k : GoalKind) → IsCoinductiveStep k type_relating → ⊥
    relating_falls coinductive_trait q = cc
    relating_falls normalization q = cc
    relating_falls other_goal q = cc

    normal_falls : (k : GoalKind) → IsCoinductiveStep k (normalize_goal inductive) → ⊥
    normal_falls coinductive_trait q = cc
    normal_falls normalization q = cc
    normal_falls other_goal q = cc

    -- the goals of relating whose proofs are of ranks below n
    record Below (n : ℕ) : Type 0 where
      alias_below : (v : Variance) (a b : Tree) (p : ProvesSettled m mode Holds e (alias_goal v a b)) → p.proof.node.rank < n → IsAlias a ⊎ IsAlias b → IsClosed a → IsClosed b → Settles J v a b
      subtype_below : (x : Bool) (v : Variance) (a b : Tree) (p : ProvesSettled m mode Holds e (subtype_goal x v a b)) → p.proof.node.rank < n → (v ≡ variance.Invariant → ⊥) → IsClosed a → IsClosed b → Settles J v a b

    module _ (n : ℕ) (below : Below n) where
      module _ (p : SettledNode m mode Holds) (low : p.node.rank < suc n) (k : GoalKind) (other : goal_kind m (instance_of p.at p.node.sequent.predicate) ≡ normalization → ⊥) where
        alias_premise : (v : Variance) (a b : Tree) → IsAlias a ⊎ IsAlias b → IsClosed a → IsClosed b → (src : Source) → (IsCoinductiveStep (goal_kind m p.node.sequent.predicate) src → ⊥)
            → RestsOnAt m p.node p.at (record { source = src; environment = e; predicate = alias_goal v a b }) → Settles J v a b
        alias_premise v a b side i j src falls r =
            let z = premise_on p (record { source = src; environment = e; predicate = alias_goal v a b }) other r in
            let l = ⊎_elim (λ x. absurd (falls x)) (λ y. y) z.descends in
            below.alias_below v a b z.proves (omega (arith, l, low)) side i j

        value_premise : (a v : Tree) → IsAlias a → IsClosed v → IsSettled J v × RestsOnAt m p.node p.at (choice k (relating e empty) a v) → IsValueOf J a v
        value_premise a v found closed x =
            let s = alias_premise variance.Invariant a v (inl found) found.closed closed (normalize_goal inductive) (normal_falls (goal_kind m p.node.sequent.predicate)) x.1 in
            let w = alias_value J judging_lawful a s.left found s.of_left in
            let same : s.left ≡ v = along_one J judging_lawful refl s.along ∙ normalizes_itself J judging_lawful v s.right x.0 s.of_right in
            subst (IsValueOf J a) same w.0

        -- a Subtype premise stands for values of its aliases, and is proved of these
        record SubtypeAt (x : Bool) (c d : Tree) : Type 0 where
          left : Tree
          right : Tree
          of_left : Normalizes J c left
          of_right : Normalizes J d right
          proves : ProvesSettled m mode Holds e (unbound (node (label.Predicate (predicate.Subtype x)) (pair left right)))
          lower : proves.proof.node.rank < n

        subtype_premise : (x : Bool) (c d : Tree) → Stands (IsSettled J) (RestsOnAt m p.node p.at) k (relating e (unbound (node (label.Predicate (predicate.Subtype x)) (pair c d)))) → SubtypeAt x c d
        subtype_premise x c d s = ⊎_elim
            (λ y. absurd y.0)
            (λ y. let z = y.1 in
            let g = unbound (node (label.Predicate (predicate.Subtype x)) (pair c d)) in
            let normal : Normalizes J g z.0 = replaced_known (λ a v. IsSettled J v × RestsOnAt m p.node p.at (choice k (relating e g) a v) × IsTerm v) (IsValueOf J) g z.0 (λ a v i j w. value_premise a v i j (w.0, w.1)) z.1 in
            let f = goal_forward (predicate.Subtype x) c d z.0 normal in
            let q = premise_on p (relating e z.0) other z.2 in
            let l = ⊎_elim (λ w. absurd (relating_falls (goal_kind m p.node.sequent.predicate) w)) (λ w. w) q.descends in
            let w = q.proves in
            record { left = f.left; right = f.right; of_left = f.of_left; of_right = f.of_right; proves = record { proof = w.proof; environment = w.environment; predicate = w.predicate ∙ f.same }; lower = omega (arith, l, low) }) s

        settle_both : (v : Variance) (a b f g : Tree) → Normalizes J a f → Normalizes J b g → Settles J v f g → Settles J v a b
        settle_both v a b f g i j s =
            record { left = f; right = g; of_left = i; of_right = j; along = settled_along J judging_lawful v f g (normalized_settled J judging_lawful a f i) (normalized_settled J judging_lawful b g j) s }

        subtype_at : (x : Bool) (v : Variance) (a b : Tree) → (v ≡ variance.Invariant → ⊥) → IsClosed a → IsClosed b → Stands (IsSettled J) (RestsOnAt m p.node p.at) k (relating e (subtype_goal x v a b)) → Settles J v a b
        subtype_at x variance.Invariant a b none i j s = absurd (none refl)
        subtype_at x variance.Covariant a b none i j s =
            let z = subtype_premise x a b s in
            let f = (replaced_closed (IsValueOf J) a z.left z.of_left 0).0 i in
            let g = (replaced_closed (IsValueOf J) b z.right z.of_right 0).0 j in
            settle_both variance.Covariant a b z.left z.right z.of_left z.of_right (below.subtype_below x variance.Covariant z.left z.right z.proves z.lower none f g)
        subtype_at x variance.Contravariant a b none i j s =
            let z = subtype_premise x b a s in
            let f = (replaced_closed (IsValueOf J) b z.left z.of_left 0).0 j in
            let g = (replaced_closed (IsValueOf J) a z.right z.of_right 0).0 i in
            settle_both variance.Contravariant a b z.right z.left z.of_right z.of_left (below.subtype_below x variance.Contravariant z.right z.left z.proves z.lower none g f)

        premises_at : Premises (Stands (IsSettled J) (RestsOnAt m p.node p.at) k)
        premises_at =
            record {
              alias_settles = λ v a b side i j s. alias_premise v a b side i j type_relating (relating_falls (goal_kind m p.node.sequent.predicate)) (stands_kept (IsSettled J) (RestsOnAt m p.node p.at) k (relating e (alias_goal v a b)) (alias_keeps v a b) s);
              subtype_settles = subtype_at;
            }

      -- one goal, from those of lower ranks
      no_normalization : (h : PredicateHead) (a b : Tree) (p : ProvesSettled m mode Holds e (unbound (node (label.Predicate h) (pair a b)))) → goal_kind m (unbound (node (label.Predicate h) (pair a b))) ≡ other_goal
          → goal_kind m (instance_of p.proof.at p.proof.node.sequent.predicate) ≡ normalization → ⊥
      no_normalization h a b p other q =
          let z : goal_kind m (unbound (node (label.Predicate h) (pair a b))) ≡ normalization = subst (λ x. goal_kind m x ≡ normalization) p.predicate q in
          let w : other_goal ≡ normalization = sym other ∙ z in
          cc

      alias_core : (d : AliasRelationDirection) (a b : Tree) (p : ProvesSettled m mode Holds e (unbound (node (label.Predicate (predicate.AliasRelate d)) (pair a b)))) → p.proof.node.rank < suc n → IsClosed a → IsClosed b → Settles J (variance_of d) a b
      alias_core d a b p low i j =
          let t = node (label.Predicate (predicate.AliasRelate d)) (pair a b) in
          let k = goal_kind m (unbound t) in
          let q = p.proof in
          let other = no_normalization (predicate.AliasRelate d) a b p refl in
          let f = proved_formed e (unbound t) p in
          let r = unfold_alias (strictly m) mode (IsSettled J) (GrantsAt q.node q.at) (HidesAt q.node q.at) (RestsOnAt m q.node q.at) e d a b i j (proved_follows e (unbound t) p) in
          let left = result_at q k other a r.left f.1.1.0.1.0 i r.of_left in
          let right = result_at q k other b r.right f.1.1.0.1.1.0 j r.of_right in
          let premises = premises_at q low k other in
          ⊎_elim
          (λ x. let s = related_settles (GrantsAt q.node q.at) (grants_true q) (Stands (IsSettled J) (RestsOnAt m q.node q.at) k) premises x left.formed in
          record { left = s.left; right = s.right; of_left = left.on s.left s.of_left; of_right = right.on s.right s.of_right; along = s.along })
          (λ x. let fl : IsFormed (alias x.0 x.1) = subst IsFormed x.3 left.formed in
          let fr : IsFormed (alias x.0 x.2) = subst IsFormed x.4 right.formed in
          let rows = ⊎_elim
          (λ y. inl (rows_settle (GrantsAt q.node q.at) (grants_true q) (Stands (IsSettled J) (RestsOnAt m q.node q.at) k) premises y fl.1.0.1))
          (λ y. inr (rows_settle (GrantsAt q.node q.at) (grants_true q) (Stands (IsSettled J) (RestsOnAt m q.node q.at) k) premises y fr.1.0.1))
          x.5 in
          heads_settle (variance_of d) a b r.left r.right x.0 x.1 x.2 x.3 x.4 left.closed right.closed left.settled right.settled left.on right.on rows)
          r.relate

      subtype_core : (x : Bool) (a b : Tree) (p : ProvesSettled m mode Holds e (unbound (node (label.Predicate (predicate.Subtype x)) (pair a b)))) → p.proof.node.rank < suc n → IsClosed a → IsClosed b → Settles J variance.Covariant a b
      subtype_core x a b p low i j =
          let t = node (label.Predicate (predicate.Subtype x)) (pair a b) in
          let k = goal_kind m (unbound t) in
          let q = p.proof in
          let other = no_normalization (predicate.Subtype x) a b p refl in
          let f = proved_formed e (unbound t) p in
          let r = unfold_subtype (strictly m) mode (IsSettled J) (GrantsAt q.node q.at) (HidesAt q.node q.at) (RestsOnAt m q.node q.at) e x a b i j (proved_follows e (unbound t) p) in
          related_settles (GrantsAt q.node q.at) (grants_true q) (Stands (IsSettled J) (RestsOnAt m q.node q.at) k) (premises_at q low k other) r f.1.1.0.1.0

      alias_next : (v : Variance) (a b : Tree) (p : ProvesSettled m mode Holds e (alias_goal v a b)) → p.proof.node.rank < suc n → IsClosed a → IsClosed b → Settles J v a b
      alias_next variance.Invariant a b p low i j = alias_core direction.Equate a b p low i j
      alias_next variance.Covariant a b p low i j = alias_core direction.Subtype a b p low i j
      alias_next variance.Contravariant a b p low i j = settles_turned J judging_lawful variance.Covariant b a (alias_core direction.Subtype b a p low j i)

      subtype_next : (x : Bool) (v : Variance) (a b : Tree) (p : ProvesSettled m mode Holds e (subtype_goal x v a b)) → p.proof.node.rank < suc n → (v ≡ variance.Invariant → ⊥) → IsClosed a → IsClosed b → Settles J v a b
      subtype_next x variance.Invariant a b p low none i j = absurd (none refl)
      subtype_next x variance.Covariant a b p low none i j = subtype_core x a b p low i j
      subtype_next x variance.Contravariant a b p low none i j = settles_turned J judging_lawful variance.Covariant b a (subtype_core x b a p low j i)

    all_below : (n : ℕ) → Below n
    all_below zero = record { alias_below = λ v a b p l side i j. absurd (omega (arith, l)); subtype_below = λ x v a b p l none i j. absurd (omega (arith, l)) }
    all_below (suc n) = record { alias_below = λ v a b p l side i j. alias_next n (all_below n) v a b p l i j; subtype_below = λ x v a b p l none i j. subtype_next n (all_below n) x v a b p l none i j }

    -- a settled proof of a goal of relating settles its sides
    pub alias_unfolds : (v : Variance) (a b : Tree) → IsAlias a ⊎ IsAlias b → IsClosed a → IsClosed b → ProvesSettled m mode Holds e (alias_goal v a b) → Settles J v a b
    alias_unfolds v a b side i j p = (let h = all_below (suc p.proof.node.rank) in h.alias_below v a b p (omega arith) side i j)

    pub subtype_unfolds : (x : Bool) (v : Variance) (a b : Tree) → (v ≡ variance.Invariant → ⊥) → IsClosed a → IsClosed b → ProvesSettled m mode Holds e (subtype_goal x v a b) → Settles J v a b
    subtype_unfolds x v a b none i j p = (let h = all_below (suc p.proof.node.rank) in h.subtype_below x v a b p (omega arith) none i j)

    -- a premise that stands by settled proofs
    abbrev pub StandsSettled : Premise → Type 0
    StandsSettled = Stands (IsSettled J) (λ q. ProvesSettled m mode Holds q.environment q.predicate) other_goal

    value_proved : (a v : Tree) (k : GoalKind) (q : Premise) → q.environment ≡ e → IsAlias a → IsClosed v → IsSettled J v × ProvesSettled m mode Holds (choice k q a v).environment (choice k q a v).predicate → IsValueOf J a v
    value_proved a v k q same found closed x =
        let p : ProvesSettled m mode Holds e (alias_goal variance.Invariant a v) = subst (λ z. ProvesSettled m mode Holds z (alias_goal variance.Invariant a v)) same x.1 in
        let s = alias_unfolds variance.Invariant a v (inl found) found.closed closed p in
        let w = alias_value J judging_lawful a s.left found s.of_left in
        let one : s.left ≡ v = along_one J judging_lawful refl s.along ∙ normalizes_itself J judging_lawful v s.right x.0 s.of_right in
        subst (IsValueOf J a) one w.0

    record SubtypeSettled (x : Bool) (c d : Tree) : Type 0 where
      left : Tree
      right : Tree
      of_left : Normalizes J c left
      of_right : Normalizes J d right
      proves : ProvesSettled m mode Holds e (unbound (node (label.Predicate (predicate.Subtype x)) (pair left right)))

    subtype_stands : (x : Bool) (c d : Tree) → StandsSettled (relating e (unbound (node (label.Predicate (predicate.Subtype x)) (pair c d)))) → SubtypeSettled x c d
    subtype_stands x c d s = ⊎_elim
        (λ y. absurd y.0)
        (λ y. let z = y.1 in
        let g = unbound (node (label.Predicate (predicate.Subtype x)) (pair c d)) in
        let normal : Normalizes J g z.0 = replaced_known (λ a v. IsSettled J v × ProvesSettled m mode Holds (choice other_goal (relating e g) a v).environment (choice other_goal (relating e g) a v).predicate × IsTerm v) (IsValueOf J) g z.0 (λ a v found closed h. value_proved a v other_goal (relating e g) refl found closed (h.0, h.1)) z.1 in
        let f = goal_forward (predicate.Subtype x) c d z.0 normal in
        let w : ProvesSettled m mode Holds e z.0 = z.2 in
        record { left = f.left; right = f.right; of_left = f.of_left; of_right = f.of_right; proves = record { proof = w.proof; environment = w.environment; predicate = w.predicate ∙ f.same } }) s

    settle_values_of : (v : Variance) (a b f g : Tree) → Normalizes J a f → Normalizes J b g → Settles J v f g → Settles J v a b
    settle_values_of v a b f g i j s =
        record { left = f; right = g; of_left = i; of_right = j; along = settled_along J judging_lawful v f g (normalized_settled J judging_lawful a f i) (normalized_settled J judging_lawful b g j) s }

    pub subtype_premise_unfolds : (x : Bool) (v : Variance) (a b : Tree) → (v ≡ variance.Invariant → ⊥) → IsClosed a → IsClosed b → StandsSettled (relating e (subtype_goal x v a b)) → Settles J v a b
    subtype_premise_unfolds x variance.Invariant a b none i j s = absurd (none refl)
    subtype_premise_unfolds x variance.Covariant a b none i j s =
        let z = subtype_stands x a b s in
        let f = (replaced_closed (IsValueOf J) a z.left z.of_left 0).0 i in
        let g = (replaced_closed (IsValueOf J) b z.right z.of_right 0).0 j in
        settle_values_of variance.Covariant a b z.left z.right z.of_left z.of_right (subtype_unfolds x variance.Covariant z.left z.right none f g z.proves)
    subtype_premise_unfolds x variance.Contravariant a b none i j s =
        let z = subtype_stands x b a s in
        let f = (replaced_closed (IsValueOf J) b z.left z.of_left 0).0 j in
        let g = (replaced_closed (IsValueOf J) a z.right z.of_right 0).0 i in
        settle_values_of variance.Contravariant a b z.right z.left z.of_right z.of_left (subtype_unfolds x variance.Contravariant z.right z.left none g f z.proves)

    -- S1: trees related by settled proofs have settled values that are related without premises
    pub related_unfolds : (v : Variance) (a b : Tree) → IsFormed a → Related m.variances (IsSettled J) Holds (λ g. StandsSettled (relating e g)) v a b → Settles J v a b
    related_unfolds v a b f r =
        related_settles Holds (λ x h. h) StandsSettled
        (record {
          alias_settles = λ v a b side i j s. alias_unfolds v a b side i j (stands_kept (IsSettled J) (λ q. ProvesSettled m mode Holds q.environment q.predicate) other_goal (relating e (alias_goal v a b)) (alias_keeps v a b) s);
          subtype_settles = subtype_premise_unfolds;
        }) r f
