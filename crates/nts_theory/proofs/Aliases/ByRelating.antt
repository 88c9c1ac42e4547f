-- Goals of relating are proved under a table in which what relating left is answered: Subtype, Coerce and AliasRelate.
use Rattle.std.proofs.Common.{◌≡◌, ◌⊎◌, inl, inr, ⊎_elim, ℕ, Bool, List, [], ◌∷◌, refl, sym, ap, ◌∙◌, arith, subst}
use Rattle.std.specs.Prelude.{map}
use Rattle.nts_model.specs.declared.labels.Variance.{Variance}
use Rattle.nts_model.specs.declared.labels.Variance.TheVariants as variance
use Rattle.nts_model.specs.declared.labels.Relation.TheVariants as relation
use Rattle.nts_model.specs.declared.labels.AliasRelationDirection.{AliasRelationDirection}
use Rattle.nts_model.specs.declared.labels.PredicateHead.{PredicateHead}
use Rattle.nts_model.specs.declared.labels.PredicateHead.TheVariants as predicate
use Rattle.nts_model.specs.declared.labels.TyHead.TheVariants as ty
use Rattle.nts_model.specs.declared.labels.ConstHead.TheVariants as konst
use Rattle.nts_model.specs.declared.labels.ListHead.TheVariants as list
use Rattle.nts_model.specs.declared.labels.AliasHead.{AliasHead}
use Rattle.nts_model.specs.declared.labels.Label.TheVariants as label
use Rattle.nts_model.specs.Terms.Trees.{Tree, empty, more, node, kind_of, IsClosed}
use Rattle.nts_model.specs.Tables.Contents.{Content}
use Rattle.nts_model.specs.Tables.Resolving.{deeply_resolved, Knows, IsSound}
use Rattle.nts_model.specs.Tables.Holding.{HoldsConstraint}
use Rattle.nts_model.specs.Tables.Alike.{AreAlike, one_tree, one_label, two_rows}
use Rattle.nts_model.specs.Derivations.Related.{Constraint, region_constraint, pair, no_sorts, unbound, constructor, function, value, alias, IsAlias, Related, AreRelatedByArgument, regions, constructors, functions, values, open_aliases, aliases, subtypes, no_more, and_more}
use Rattle.nts_model.specs.Derivations.Related.{arguments as arguments_of}
use Rattle.nts_model.specs.Derivations.Related.{one_tree as same_tree}
use Rattle.nts_model.specs.Lists.{Among}
use Rattle.nts_model.specs.Derivations.Sequents.{PathKind, coinductive, type_relating, Premise, IsOfTerms, Hides, premise_under}
use Rattle.nts_model.specs.Derivations.Rules.{Meaning, Mode, GoalKind, other_goal, goal_kind, step_kind, proof_kind, IsTerm, Stands, relating, normalization_goal, IsResult, RelatedIn, AreResultsRelated, variance_of, IsBuiltIn, subtyped, coerced, aliases_relate, IsPlainRule, IsRule}
use Rattle.nts_model.specs.Derivations.Proofs.{Assumed, passed, by_rule}
use Rattle.nts_model.specs.Derivations.Handlers.{premise_by}
use Rattle.nts_model.specs.Derivations.Proving.{HoldsTerms, IsTermOf, AreConstraintsOf, recorded_as, read_constraints, read_goals, sequent_at}
use Rattle.nts_model.specs.Searching.Stacks.{IsProvedFrom, IsProvedWith}
use Rattle.nts_variance_model.specs.Variances.AnsweredGoals.{RelatedUnder, RowsUnder}
use Rattle.nts_model.proofs.Terms.Composing.{itself, instance_of-itself}
use Rattle.nts_model.proofs.Terms.Identified.{one_itself, one_trans}
use Rattle.nts_model.proofs.Tables.Resolved.{deeply_resolved-node, deeply_resolved-empty, deeply_resolved-deeply_resolved}
use Rattle.nts_model.proofs.Tables.ResolvedTerms.{IsFormed-deeply_resolved, IsClosed-deeply_resolved}
use Rattle.nts_model.proofs.Tables.TableInstances.{deeply_resolved-more}
use Rattle.nts_model.proofs.Tables.Open.{Knows-deeply_resolved}
use Rattle.nts_model.proofs.Tables.Kept.{kind_of-deeply_resolved}
use Rattle.nts_model.proofs.Terms.Unpositioned.{known_no_positions, known_well_bound, pair_no_positions}
use Rattle.nts_theory.proofs.Derivations.ClosedStatements.{closed_unbound}
use Rattle.nts_model.proofs.Terms.Substituting.{closed_under_more}
use Rattle.nts_theory.proofs.Derivations.Monotone.{related_more, are_related_more, stands_more, result_more, results_more, rule_more}
use Rattle.nts_theory.proofs.Derivations.ByCandidate.{IsGranted, granted, read_itself}
use Rattle.nts_theory.proofs.Responses.Granting.{one_by_table}
use Rattle.nts_theory.proofs.Derivations.Served.{IsClosedEnvironment, Grows}
use Rattle.nts_theory.proofs.Aliases.ChosenValues.{alias_resolved, resolved_alias}
use Rattle.nts_theory.proofs.Derivations.Owing.{IsServedFrom, at_premise, derive_all_from, OwesFrom, from_none, from_then, from_both, from_all, RestsOnAll, rests_none, rests_more, rests_open, from_rests}

-- trees that resolving leaves as they are, and their parts
resolved_constructor : (c : Content) (i : ℕ) (ts : Tree) → deeply_resolved c (constructor i ts) ≡ constructor i (deeply_resolved c ts)
resolved_constructor c i ts =
    let a = deeply_resolved-node c (label.Ty (ty.Ctor i)) (arguments_of ts) refl in
    let b = deeply_resolved-more c (node (label.List list.Args) ts) empty in
    let x = deeply_resolved-node c (label.List list.Args) ts refl in
    let d = deeply_resolved-empty c in
    cc (a, b, x, d)

resolved_function : (c : Content) (ss ts : Tree) → deeply_resolved c (function ss ts) ≡ function (deeply_resolved c ss) (deeply_resolved c ts)
resolved_function c ss ts =
    let a = deeply_resolved-node c (label.Ty ty.FnPtr) (more (node (label.List list.Sorts) ss) (arguments_of ts)) refl in
    let b = deeply_resolved-more c (node (label.List list.Sorts) ss) (arguments_of ts) in
    let x = deeply_resolved-node c (label.List list.Sorts) ss refl in
    let d = deeply_resolved-more c (node (label.List list.Args) ts) empty in
    let y = deeply_resolved-node c (label.List list.Args) ts refl in
    let z = deeply_resolved-empty c in
    cc (a, b, x, d, y, z)

resolved_value : (c : Content) (b : ℕ) (t : Tree) → deeply_resolved c (value b t) ≡ value b (deeply_resolved c t)
resolved_value c b t =
    let a = deeply_resolved-node c (label.Const (konst.Value b)) (more t empty) refl in
    let x = deeply_resolved-more c t empty in
    let d = deeply_resolved-empty c in
    cc (a, x, d)

part_of_constructor : (i : ℕ) (x y : Tree) → constructor i x ≡ constructor i y → x ≡ y
part_of_constructor i x y e = cc e

part_of_function : (a b x y : Tree) → function a x ≡ function b y → x ≡ y
part_of_function a b x y e = cc e

part_of_value : (b : ℕ) (x y : Tree) → value b x ≡ value b y → x ≡ y
part_of_value b x y e = cc e

part_of_alias : (h : AliasHead) (x y : Tree) → alias h x ≡ alias h y → x ≡ y
part_of_alias h x y e = cc e

first_of_row : (a b x y : Tree) → more a b ≡ more x y → a ≡ x
first_of_row a b x y e = cc e

rest_of_row : (a b x y : Tree) → more a b ≡ more x y → b ≡ y
rest_of_row a b x y e = cc e

-- resolved trees that are related where the table holds the constraints are related by the constraints that it grants
region_granted : (c : Content) (v : Variance) (a b : Tree) → deeply_resolved c a ≡ a → deeply_resolved c b ≡ b → HoldsConstraint c (recorded_as (region_constraint v a b)) → IsGranted c (region_constraint v a b)
region_granted c variance.Invariant a b i j h = subst (λ z. IsGranted c (region_constraint variance.Invariant z b)) i (subst (λ z. IsGranted c (region_constraint variance.Invariant (deeply_resolved c a) z)) j (granted c relation.Equal a b h))
region_granted c variance.Covariant a b i j h = subst (λ z. IsGranted c (region_constraint variance.Covariant z b)) i (subst (λ z. IsGranted c (region_constraint variance.Covariant (deeply_resolved c a) z)) j (granted c relation.RegionOutlives a b h))
region_granted c variance.Contravariant a b i j h = subst (λ z. IsGranted c (region_constraint variance.Contravariant z b)) i (subst (λ z. IsGranted c (region_constraint variance.Contravariant (deeply_resolved c a) z)) j (granted c relation.RegionOutlives b a h))

module _ (V : ℕ → List Variance) (c : Content) (s : IsSound c) (K : Tree → Type 0) where
  abbrev Held : Constraint → Type 0
  Held x = HoldsConstraint c (recorded_as x)

  mutual
    pub related_granted : {v : Variance} {a b : Tree} → Related V (λ t. Unit {0}) Held K v a b → deeply_resolved c a ≡ a → deeply_resolved c b ≡ b → Related V (λ t. Unit {0}) (IsGranted c) K v a b
    related_granted (same_tree x) i j = same_tree x
    related_granted {v = v} {a = a} {b = b} (regions x y h) i j = regions x y (region_granted c v a b i j h)
    related_granted (constructors {i = n} {ts = ts} {us = us} rs) i j =
        constructors (rows_granted rs (part_of_constructor n _ _ (sym (resolved_constructor c n ts) ∙ i)) (part_of_constructor n _ _ (sym (resolved_constructor c n us) ∙ j)))
    related_granted (functions {sorts = ss} {ts = ts} {us = us} rs) i j =
        functions (rows_granted rs (part_of_function (deeply_resolved c ss) ss _ _ (sym (resolved_function c ss ts) ∙ i)) (part_of_function (deeply_resolved c ss) ss _ _ (sym (resolved_function c ss us) ∙ j)))
    related_granted (values {b = n} {t = t} {u = u} r) i j =
        values (related_granted r (part_of_value n _ _ (sym (resolved_value c n t) ∙ i)) (part_of_value n _ _ (sym (resolved_value c n u) ∙ j)))
    related_granted (open_aliases {ts = ts} {us = us} h x y rs) i j =
        open_aliases h x y (rows_granted rs (part_of_alias h _ _ (sym (resolved_alias c h ts) ∙ i)) (part_of_alias h _ _ (sym (resolved_alias c h us) ∙ j)))
    related_granted (aliases x y z k) i j = aliases x y z k
    related_granted (subtypes e x y z w u k) i j = subtypes e x y z w u k

    pub rows_granted : {v : Variance} {ws : List Variance} {ts us : Tree} → AreRelatedByArgument V (λ t. Unit {0}) Held K v ws ts us → deeply_resolved c ts ≡ ts → deeply_resolved c us ≡ us → AreRelatedByArgument V (λ t. Unit {0}) (IsGranted c) K v ws ts us
    rows_granted no_more i j = no_more
    rows_granted (and_more {a = a} {b = b} {ts = ts} {us = us} r rs) i j =
        let left = sym (deeply_resolved-more c a ts) ∙ i in
        let right = sym (deeply_resolved-more c b us) ∙ j in
        and_more (related_granted r (first_of_row _ _ _ _ left) (first_of_row _ _ _ _ right)) (rows_granted rs (rest_of_row _ _ _ _ left) (rest_of_row _ _ _ _ right))

-- a predicate of two trees that binds nothing
abbrev pub about : PredicateHead → Tree → Tree → Tree
about h a b = unbound (node (label.Predicate h) (pair a b))

pub resolved_about : (c : Content) (h : PredicateHead) (a b : Tree) → deeply_resolved c (about h a b) ≡ about h (deeply_resolved c a) (deeply_resolved c b)
resolved_about c h a b =
    let x0 = deeply_resolved-node c (label.List list.Binder) (pair no_sorts (node (label.Predicate h) (pair a b))) refl in
    let x1 = deeply_resolved-more c no_sorts (more (node (label.Predicate h) (pair a b)) empty) in
    let x2 = deeply_resolved-node c (label.List list.Sorts) empty refl in
    let x3 = deeply_resolved-more c (node (label.Predicate h) (pair a b)) empty in
    let x4 = deeply_resolved-node c (label.Predicate h) (pair a b) refl in
    let x5 = deeply_resolved-more c a (more b empty) in
    let x6 = deeply_resolved-more c b empty in
    let x7 = deeply_resolved-empty c in
    cc (x0, x1, x2, x3, x4, x5, x6, x7)

resolved_normalization : (c : Content) (h : AliasHead) (ts r : Tree) → deeply_resolved c (normalization_goal h ts r) ≡ normalization_goal h (deeply_resolved c ts) (deeply_resolved c r)
resolved_normalization c h ts r =
    let x = resolved_about c (predicate.NormalizesTo h) (node (label.List list.Args) ts) r in
    let y = deeply_resolved-node c (label.List list.Args) ts refl in
    x ∙ ap (λ z. about (predicate.NormalizesTo h) z (deeply_resolved c r)) y

-- alike sides make alike predicates
pub about_alike : (c : Content) (h : PredicateHead) (a b x y : Tree) → AreAlike c a x → AreAlike c b y → AreAlike c (about h a b) (about h x y)
about_alike c h a b x y left right =
    rw (resolved_about c h a b, resolved_about c h x y)
    (one_label refl (two_rows one_tree (two_rows (one_label refl (two_rows left (two_rows right one_tree))) one_tree)))

-- a goal that is proved is so for a predicate alike
pub proved_alike : (m : Meaning) (mode : Mode) (A : List Assumed) (c : Content) (e p q : Tree) (gs : List Premise) → IsSound c → AreAlike c p q → IsProvedWith m mode A c e p gs → IsProvedWith m mode A c e q gs
proved_alike m mode A c e p q gs s al x =
    let i = x.is_instance in
    record {
      sequent = x.sequent;
      reached = x.reached;
      instance = x.instance;
      is_instance = record {
        environment = i.environment;
        predicate = one_trans _ _ _ _ i.predicate (one_by_table c p q s al);
        constraints = i.constraints;
        hidden = i.hidden;
        open_goals = i.open_goals;
      };
    }

-- a premise as an open goal of what serves another one
abbrev pub reopen : Premise → Premise
reopen p = record p { source = type_relating }

abbrev pub reopened_goals : Content → List Premise → List Premise
reopened_goals c gs = map (λ g. reopen (premise_by (deeply_resolved c) g)) gs

among_reopened : (c : Content) (gs : List Premise) (x : Premise) → Among (read_goals c gs) x → Among (reopened_goals c gs) (reopen x)
among_reopened c [] x i = absurd i
among_reopened c (g ∷ gs) x i = ⊎_elim (λ e. inl (ap reopen e)) (λ j. inr (among_reopened c gs x j)) i

passed_same : (k : PathKind) (A : List Assumed) → (k ≡ coinductive → ⊥) → passed k A ≡ A
passed_same coinductive A n = absurd (n refl)
passed_same k A n = refl

-- goals of a goal that is of another kind than a trait's or an alias's: they are proved under the table from the assumptions at it, and the
-- goals that are left open by one are such goals
mutual
  pub data IsAnsweredGoal (m : Meaning) (mode : Mode) (A : List Assumed) (c : Content) : Premise → Type 0 where
    is_answered : {p : Premise} (gs : List Premise) → (step_kind other_goal p.source ≡ coinductive → ⊥) → IsProvedWith m mode (passed (step_kind other_goal p.source) A) c p.environment p.predicate gs
        → AreAnsweredGoals m mode A c gs → IsAnsweredGoal m mode A c p

  pub data AreAnsweredGoals (m : Meaning) (mode : Mode) (A : List Assumed) (c : Content) : List Premise → Type 0 where
    no_goals : AreAnsweredGoals m mode A c []
    and_goal : {p : Premise} {ps : List Premise} → IsAnsweredGoal m mode A c p → AreAnsweredGoals m mode A c ps → AreAnsweredGoals m mode A c (p ∷ ps)

-- what relating related under the table follows, for a goal of kind z, from the goals that it left: B are the assumptions at a premise
module _ (m : Meaning) (mode : Mode) (c : Content) (s : IsSound c) (here : Tree) (z : GoalKind) (B : Premise → List Assumed) (Own : Premise → Type 0) where
  abbrev constraints_here : List Constraint
  constraints_here = read_constraints c c.constraints

  abbrev pub FollowsBy : ((Premise → Type 0) → Type 0) → Type 0
  FollowsBy = OwesFrom m mode here constraints_here B Own

  -- the goals that relating left stand, each with its source
  abbrev pub StandAll : List Tree → (Premise → Type 0) → Type 0
  StandAll ks P = (k : Tree) → Among ks k → Stands (λ y. Unit {0}) P z (relating here k)

  abbrev pub EachStands : List Tree → Type 0
  EachStands ks = (k : Tree) → Among ks k → FollowsBy (λ P. Stands (λ y. Unit {0}) P z (relating here k))

  stand_grows : (k : Tree) → Grows m mode here constraints_here (λ P. Stands (λ y. Unit {0}) P z (relating here k))
  stand_grows k P Q f x = stands_more f z (relating here k) x

  stand_all : (ks : List Tree) → EachStands ks → FollowsBy (StandAll ks)
  stand_all ks each = from_all m mode here constraints_here B Own (λ k P. Stands (λ y. Unit {0}) P z (relating here k)) stand_grows ks each

  -- two trees that relating related
  abbrev pub Relates : Variance → Tree → Tree → (Premise → Type 0) → Type 0
  Relates v a b P = RelatedIn m (λ y. Unit {0}) (IsGranted c) (Stands (λ y. Unit {0}) P z) here v (deeply_resolved c a) (deeply_resolved c b)

  pub related_follows : (ks : List Tree) (v : Variance) (a b : Tree) → EachStands ks → RelatedUnder m.variances c ks v a b → FollowsBy (Relates v a b)
  related_follows ks v a b each r =
      from_then m mode here constraints_here B Own (StandAll ks) (Relates v a b)
      (λ P h. related_more (λ g i. h g i) (related_granted m.variances c s (Among ks) r (deeply_resolved-deeply_resolved c a s) (deeply_resolved-deeply_resolved c b s)))
      (stand_all ks each)

  -- .. and rows of arguments
  abbrev pub RowsRelate : Variance → Tree → Tree → (Premise → Type 0) → Type 0
  RowsRelate v a b P = AreRelatedByArgument m.variances (λ y. Unit {0}) (IsGranted c) (λ g. Stands (λ y. Unit {0}) P z (relating here g)) v [] (deeply_resolved c a) (deeply_resolved c b)

  pub rows_follow : (ks : List Tree) (v : Variance) (a b : Tree) → EachStands ks → RowsUnder m.variances c ks v [] a b → FollowsBy (RowsRelate v a b)
  rows_follow ks v a b each r =
      from_then m mode here constraints_here B Own (StandAll ks) (RowsRelate v a b)
      (λ P h. are_related_more (λ g i. h g i) (rows_granted m.variances c s (Among ks) r (deeply_resolved-deeply_resolved c a s) (deeply_resolved-deeply_resolved c b s)))
      (stand_all ks each)

module _ (m : Meaning) (mode : Mode) (A : List Assumed) (c : Content) (s : IsSound c) (t : HoldsTerms c) (cons : AreConstraintsOf c) (e : Tree) (ke : IsTermOf c e) (closed : IsClosedEnvironment (deeply_resolved c e)) where
  abbrev here : Tree
  here = deeply_resolved c e

  abbrev cs : List Constraint
  cs = read_constraints c c.constraints

  abbrev nothing : Premise → Type 0
  nothing q = ⊥

  abbrev pub Follows : ((Premise → Type 0) → Type 0) → Type 0
  Follows = OwesFrom m mode here cs (λ q. A) nothing

  abbrev Rests : List Premise → Type 0
  Rests = RestsOnAll m mode here cs (λ q. A) nothing

  served_answered : (p q : Premise) (gs : List Premise) → q.environment ≡ deeply_resolved c p.environment → q.predicate ≡ deeply_resolved c p.predicate → IsProvedWith m mode A c p.environment p.predicate gs
      → IsServedFrom m mode here cs A (Among (reopened_goals c gs)) q
  served_answered p q gs x y w =
      let i = w.is_instance in
      record {
        sequent = w.sequent;
        reached = w.reached;
        instance = w.instance;
        environment = one_trans _ _ _ _ i.environment (one_itself _ _ _ (sym x));
        predicate = one_trans _ _ _ _ i.predicate (one_itself _ _ _ (sym y));
        constraints = i.constraints;
        hidden = λ o j. ⊎_elim (λ v. v) (λ v. absurd v.1) (i.hidden o j);
        open_goals = λ g j. among_reopened c gs (premise_under w.instance g) (i.open_goals g j);
      }

  mutual
    pub rests_answered : (p q : Premise) → q.environment ≡ deeply_resolved c p.environment → q.predicate ≡ deeply_resolved c p.predicate → IsAnsweredGoal m mode A c p → Rests (q ∷ [])
    rests_answered p q x y (is_answered gs none w opens) =
        let same = passed_same (step_kind other_goal p.source) A none in
        rests_open m mode here cs (λ z. A) nothing q (reopened_goals c gs)
        (served_answered p q gs x y (subst (λ B. IsProvedWith m mode B c p.environment p.predicate gs) same w)) (rests_opens gs opens)

    rests_opens : (gs : List Premise) → AreAnsweredGoals m mode A c gs → Rests (reopened_goals c gs)
    rests_opens [] no_goals = rests_none m mode here cs (λ z. A) nothing
    rests_opens (p ∷ ps) (and_goal h hs) =
        rests_more m mode here cs (λ z. A) nothing (reopen (premise_by (deeply_resolved c) p)) (reopened_goals c ps)
        (rests_answered p (reopen (premise_by (deeply_resolved c) p)) refl refl h) (rests_opens ps hs)

  pub answered_follows : (p q : Premise) → q.environment ≡ deeply_resolved c p.environment → q.predicate ≡ deeply_resolved c p.predicate → IsAnsweredGoal m mode A c p → Follows (λ P. P q)
  answered_follows p q x y h = from_rests m mode here cs (λ z. A) nothing q (rests_answered p q x y h)

  -- the goals that relating left stand, each with its source
  abbrev pub EachAnswered : List Tree → Type 0
  EachAnswered = EachStands m mode c s here other_goal (λ q. A) nothing

  abbrev RelatesHere : Variance → Tree → Tree → (Premise → Type 0) → Type 0
  RelatesHere = Relates m mode c s here other_goal (λ q. A) nothing

  abbrev RowsRelateHere : Variance → Tree → Tree → (Premise → Type 0) → Type 0
  RowsRelateHere = RowsRelate m mode c s here other_goal (λ q. A) nothing

  abbrev related_here : (ks : List Tree) (v : Variance) (a b : Tree) → EachAnswered ks → RelatedUnder m.variances c ks v a b → Follows (RelatesHere v a b)
  related_here = related_follows m mode c s here other_goal (λ q. A) nothing

  abbrev rows_here : (ks : List Tree) (v : Variance) (a b : Tree) → EachAnswered ks → RowsUnder m.variances c ks v [] a b → Follows (RowsRelateHere v a b)
  rows_here = rows_follow m mode c s here other_goal (λ q. A) nothing

  -- a goal about two terms
  module _ (h : PredicateHead) (other : (x y : Tree) → goal_kind m (about h x y) ≡ other_goal) (a b : Tree) (kg : IsTermOf c (about h a b)) (ca : IsClosed a) (cb : IsClosed b) where
    about_closed : (x y : Tree) → IsClosed x → IsClosed y → IsClosed (about h x y)
    about_closed x y i j = (tt, ((tt, tt), ((tt, (closed_under_more 0 1 x (omega arith) i, (closed_under_more 0 1 y (omega arith) j, tt))), tt)))

    pub about_terms : IsOfTerms (sequent_at c e (about h a b))
    about_terms =
        let known = Knows-deeply_resolved c (about h a b) s kg.knows in
        record {
          formed = (IsFormed-deeply_resolved c e s t ke.knows ke.formed, (IsFormed-deeply_resolved c (about h a b) s t kg.knows kg.formed, tt));
          closed = (closed.closed, (IsClosed-deeply_resolved c (about h a b) t (about_closed a b ca cb), tt));
          no_positions = pair_no_positions here (deeply_resolved c (about h a b)) closed.no_positions (known_no_positions c (deeply_resolved c (about h a b)) known);
          well_bound = (closed.well_bound, (known_well_bound c (deeply_resolved c (about h a b)) known, tt));
          statement = rw (resolved_about c h a b) (closed_unbound (node (label.Predicate h) (pair (deeply_resolved c a) (deeply_resolved c b))) (tt, (IsClosed-deeply_resolved c a t ca, (IsClosed-deeply_resolved c b t cb, tt))));
          statements = closed.statements;
        }

    abbrev statement : Tree
    statement = node (label.Predicate h) (pair (deeply_resolved c a) (deeply_resolved c b))

    -- it is proved where it follows by a rule of the engine
    pub follows_proved : Follows (λ P. IsBuiltIn m (λ y. Unit {0}) (IsGranted c) (Stands (λ y. Unit {0}) P other_goal) here statement) → IsProvedFrom m mode A c e (about h a b)
    follows_proved o =
        let terms = about_terms in
        let kind : goal_kind m (unbound statement) ≡ other_goal = other (deeply_resolved c a) (deeply_resolved c b) in
        let plain : IsPlainRule m mode (λ y. Unit {0}) (IsGranted c) (Hides (sequent_at c e (about h a b))) (λ q. Among o.premises q ⊎ nothing q) here statement =
        inr (subst (λ z. IsBuiltIn m (λ y. Unit {0}) (IsGranted c) (Stands (λ y. Unit {0}) (λ q. Among o.premises q ⊎ nothing q) z) here statement) (sym kind) o.holds) in
        let rule : IsRule m mode (λ y. Unit {0}) (IsGranted c) (Hides (sequent_at c e (about h a b))) (λ q. Among o.premises q ⊎ nothing q) here (deeply_resolved c (about h a b)) =
        inl (statement, resolved_about c h a b, plain) in
        let kind_here : goal_kind m (deeply_resolved c (about h a b)) ≡ other_goal = ap (goal_kind m) (resolved_about c h a b) ∙ kind in
        let served : (q : Premise) → Among o.premises q → IsServedFrom m mode here cs (at_premise m mode here cs A (deeply_resolved c (about h a b)) q) (Among o.premises) q =
        λ q i. subst (λ z. IsServedFrom m mode here cs (passed (proof_kind z q.source) A) (Among o.premises) q) (sym kind_here) (o.served q i) in
        let all = derive_all_from m mode here cs A (deeply_resolved c (about h a b)) o.premises o.premises served in
        let f = terms.formed in
        record {
          sequent = sequent_at c e (about h a b);
          reached = inl (by_rule o.premises terms (rule_more (λ q i. ⊎_elim (λ j. inl j) (λ j. absurd j) i) here (deeply_resolved c (about h a b)) rule) all);
          instance = itself;
          is_instance = record {
            environment = one_itself _ _ _ (instance_of-itself here f.0);
            predicate = one_itself _ _ _ (instance_of-itself (deeply_resolved c (about h a b)) f.1.0);
            constraints = λ y i. inr (subst (Among cs) (sym (read_itself c s t cons y i)) i);
            hidden = λ y i. absurd i;
            open_goals = λ y i. absurd i;
          };
        }

  -- Subtype and Coerce goals: their sides were related covariantly
  pub subtype_proved : (x : Bool) (ks : List Tree) (a b : Tree) → IsTermOf c (about (predicate.Subtype x) a b) → IsClosed a → IsClosed b → EachAnswered ks → RelatedUnder m.variances c ks variance.Covariant a b
      → IsProvedFrom m mode A c e (about (predicate.Subtype x) a b)
  subtype_proved x ks a b kg ca cb each r =
      follows_proved (predicate.Subtype x) (λ y z. refl) a b kg ca cb
      (from_then m mode here cs (λ q. A) nothing (RelatesHere variance.Covariant a b) (λ P. IsBuiltIn m (λ y. Unit {0}) (IsGranted c) (Stands (λ y. Unit {0}) P other_goal) here (node (label.Predicate (predicate.Subtype x)) (pair (deeply_resolved c a) (deeply_resolved c b))))
      (λ P y. subtyped x y) (related_here ks variance.Covariant a b each r))

  pub coerce_proved : (ks : List Tree) (a b : Tree) → IsTermOf c (about predicate.Coerce a b) → IsClosed a → IsClosed b → EachAnswered ks → RelatedUnder m.variances c ks variance.Covariant a b
      → IsProvedFrom m mode A c e (about predicate.Coerce a b)
  coerce_proved ks a b kg ca cb each r =
      follows_proved predicate.Coerce (λ y z. refl) a b kg ca cb
      (from_then m mode here cs (λ q. A) nothing (RelatesHere variance.Covariant a b) (λ P. IsBuiltIn m (λ y. Unit {0}) (IsGranted c) (Stands (λ y. Unit {0}) P other_goal) here (node (label.Predicate predicate.Coerce) (pair (deeply_resolved c a) (deeply_resolved c b))))
      (λ P y. coerced y) (related_here ks variance.Covariant a b each r))

  -- the result of a side of AliasRelate: the side, or a term of the table to which the side, an alias, was normalized
  pub record IsNormalized (a r : Tree) : Type 0 where
    pub found : IsAlias a
    pub term : IsTermOf c r
    pub ends : IsClosed r
    pub kind : kind_of r ≡ kind_of a
    pub known : Knows c a
    pub goal : IsAnsweredGoal m mode A c (relating e (normalization_goal found.head found.parts r))

  abbrev pub IsSide : Tree → Tree → Type 0
  IsSide a r = (r ≡ a) ⊎ IsNormalized a r

  abbrev pub HasResult : Tree → Tree → (Premise → Type 0) → Type 0
  HasResult a r P = IsResult (λ y. Unit {0}) (Stands (λ y. Unit {0}) P other_goal) here (deeply_resolved c a) (deeply_resolved c r)

  result_grows : (a r : Tree) → Grows m mode here cs (HasResult a r)
  result_grows a r P Q f x = result_more m (λ y. Unit {0}) (IsGranted c) (λ q y. stands_more {G = λ z. Unit {0}} f other_goal q y) here (deeply_resolved c a) (deeply_resolved c r) x

  side_follows : (a r : Tree) → IsSide a r → Follows (HasResult a r)
  side_follows a r (inl same) = from_none m mode here cs (λ q. A) nothing (HasResult a r) (λ P. inl (ap (deeply_resolved c) same, λ x. tt))
  side_follows a r (inr n) =
      let x = n.found in
      let p = relating e (normalization_goal x.head x.parts r) in
      let q = relating here (normalization_goal x.head (deeply_resolved c x.parts) (deeply_resolved c r)) in
      let there : IsAlias (deeply_resolved c a) = alias_resolved c a t x in
      let k = n.term in
      let known = Knows-deeply_resolved c r s k.knows in
      let good : IsTerm (deeply_resolved c r) = record { formed = IsFormed-deeply_resolved c r s t k.knows k.formed; closed = IsClosed-deeply_resolved c r t n.ends; no_positions = known_no_positions c (deeply_resolved c r) known; well_bound = known_well_bound c (deeply_resolved c r) known } in
      let kinds : kind_of (deeply_resolved c r) ≡ kind_of (deeply_resolved c a) = kind_of-deeply_resolved c r s k.knows ∙ n.kind ∙ sym (kind_of-deeply_resolved c a s n.known) in
      from_then m mode here cs (λ z. A) nothing (λ P. P q) (HasResult a r) (λ P y. inr (there, good, tt, inl (tt, y), kinds))
      (answered_follows p q refl (sym (resolved_normalization c x.head x.parts r)) n.goal)

  -- how the results were related: as trees; or as aliases of one head, by their arguments, in either order
  pub record AreHeadsRelated (ks : List Tree) (v : Variance) (r u : Tree) : Type 0 where
    pub head : AliasHead
    pub left : Tree
    pub right : Tree
    pub of_left : deeply_resolved c r ≡ alias head (deeply_resolved c left)
    pub of_right : deeply_resolved c u ≡ alias head (deeply_resolved c right)
    pub rows : RowsUnder m.variances c ks v [] left right ⊎ RowsUnder m.variances c ks v [] right left

  abbrev pub AreSidesRelated : List Tree → Variance → Tree → Tree → Type 0
  AreSidesRelated ks v r u = RelatedUnder m.variances c ks v r u ⊎ AreHeadsRelated ks v r u

  abbrev pub ResultsRelate : Variance → Tree → Tree → (Premise → Type 0) → Type 0
  ResultsRelate v r u P = AreResultsRelated m (λ y. Unit {0}) (IsGranted c) (Stands (λ y. Unit {0}) P other_goal) here v (deeply_resolved c r) (deeply_resolved c u)

  results_grow : (v : Variance) (r u : Tree) → Grows m mode here cs (ResultsRelate v r u)
  results_grow v r u P Q f x = results_more m (λ y. Unit {0}) (IsGranted c) (λ q y. stands_more {G = λ z. Unit {0}} f other_goal q y) here v (deeply_resolved c r) (deeply_resolved c u) x

  results_follow : (ks : List Tree) (v : Variance) (r u : Tree) → EachAnswered ks → AreSidesRelated ks v r u → Follows (ResultsRelate v r u)
  results_follow ks v r u each (inl x) = from_then m mode here cs (λ q. A) nothing (RelatesHere v r u) (ResultsRelate v r u) (λ P y. inl y) (related_here ks v r u each x)
  results_follow ks v r u each (inr x) = ⊎_elim
      (λ y. from_then m mode here cs (λ q. A) nothing (RowsRelateHere v x.left x.right) (ResultsRelate v r u) (λ P z. inr (x.head, deeply_resolved c x.left, deeply_resolved c x.right, x.of_left, x.of_right, inl z)) (rows_here ks v x.left x.right each y))
      (λ y. from_then m mode here cs (λ q. A) nothing (RowsRelateHere v x.right x.left) (ResultsRelate v r u) (λ P z. inr (x.head, deeply_resolved c x.left, deeply_resolved c x.right, x.of_left, x.of_right, inr z)) (rows_here ks v x.right x.left each y))
      x.rows

  -- AliasRelate: the rule of the engine for it, where each side has its result, and the two were related
  pub relation_follows : (d : AliasRelationDirection) (ks : List Tree) (a b r u : Tree) → IsSide a r → IsSide b u → EachAnswered ks → AreSidesRelated ks (variance_of d) r u
      → Follows (λ P. IsBuiltIn m (λ y. Unit {0}) (IsGranted c) (Stands (λ y. Unit {0}) P other_goal) here (node (label.Predicate (predicate.AliasRelate d)) (pair (deeply_resolved c a) (deeply_resolved c b))))
  relation_follows d ks a b r u left right each related =
      let v = variance_of d in
      from_then m mode here cs (λ q. A) nothing (λ P. HasResult a r P × (HasResult b u P × ResultsRelate v r u P))
      (λ P. IsBuiltIn m (λ y. Unit {0}) (IsGranted c) (Stands (λ y. Unit {0}) P other_goal) here (node (label.Predicate (predicate.AliasRelate d)) (pair (deeply_resolved c a) (deeply_resolved c b))))
      (λ P y. aliases_relate (deeply_resolved c r) (deeply_resolved c u) y.0 y.1.0 y.1.1)
      (from_both m mode here cs (λ q. A) nothing (HasResult a r) (λ P. HasResult b u P × ResultsRelate v r u P) (result_grows a r) (λ P Q f y. (result_grows b u P Q f y.0, results_grow v r u P Q f y.1))
      (side_follows a r left)
      (from_both m mode here cs (λ q. A) nothing (HasResult b u) (ResultsRelate v r u) (result_grows b u) (results_grow v r u) (side_follows b u right) (results_follow ks v r u each related)))

  pub alias_relate_proved : (d : AliasRelationDirection) (ks : List Tree) (a b r u : Tree) → IsTermOf c (about (predicate.AliasRelate d) a b) → IsClosed a → IsClosed b
      → IsSide a r → IsSide b u → EachAnswered ks → AreSidesRelated ks (variance_of d) r u → IsProvedFrom m mode A c e (about (predicate.AliasRelate d) a b)
  alias_relate_proved d ks a b r u kg ca cb left right each related =
      follows_proved (predicate.AliasRelate d) (λ y z. refl) a b kg ca cb (relation_follows d ks a b r u left right each related)
