-- The two goals of relating unfold: a settled proof of one settles its sides.
use Rattle.std.proofs.Common.{◌≡◌, ⊎_elim, ℕ, ◌+◌, ◌<◌, ◌==◌, Bool, false, refl, ap, ◌∙◌, arith, subst}
use Rattle.nts_model.specs.declared.labels.Sort.{Sort}
use Rattle.nts_model.specs.declared.labels.Variance.TheVariants as variance
use Rattle.nts_model.specs.declared.labels.AliasRelationDirection.{AliasRelationDirection}
use Rattle.nts_model.specs.declared.labels.Leaf.{Leaf}
use Rattle.nts_model.specs.declared.labels.BoundVarIndexKind.TheVariants as index
use Rattle.nts_model.specs.declared.labels.PredicateHead.TheVariants as predicate
use Rattle.nts_model.specs.declared.labels.Label.{Label}
use Rattle.nts_model.specs.declared.labels.Label.TheVariants as label
use Rattle.nts_model.specs.Terms.Trees.{Tree, empty, more, node, binders, IsBoundBelow, IsClosedUnder, IsClosed}
use Rattle.nts_model.specs.Derivations.Related.{Constraint, pair, unbound}
use Rattle.nts_model.specs.Derivations.Sequents.{Premise, Hidden}
use Rattle.nts_model.specs.Derivations.Rules.{Meaning, Mode, goal_kind, Stands, opened, opened_at, IsHandlers, IsResult, RelatedIn, AreResultsRelated, variance_of, IsBuiltIn, region_lives, type_lives, subtyped, coerced, const_typed, error_typed, allowed, dyn_compatible, formed, constant_evaluated, value_evaluated, error_evaluated, alias_evaluated, aliases_relate, IsPlainRule, IsRule}

-- a closed tree has nothing to open
not_same : (d c : ℕ) → d < c → (d == c) ≡ false
not_same d c h = grind (arith, h)

opened_at_closed : (f : Sort → ℕ → Leaf) (c : ℕ) (l : Label) (t x : Tree) → IsBoundBelow c l → x ≡ t → opened_at f c l x ≡ node l t
opened_at_closed f c (label.Bound s (index.Bound d) n) t x h e = rw (not_same d c h) (ap (node (label.Bound s (index.Bound d) n)) e)
opened_at_closed f c (label.Bound s index.Canonical n) t x h e = ap (node (label.Bound s index.Canonical n)) e
opened_at_closed f c (label.Leaf y) t x h e = ap (node (label.Leaf y)) e
opened_at_closed f c (label.Ty y) t x h e = ap (node (label.Ty y)) e
opened_at_closed f c (label.Const y) t x h e = ap (node (label.Const y)) e
opened_at_closed f c (label.Clause y) t x h e = ap (node (label.Clause y)) e
opened_at_closed f c (label.Predicate y) t x h e = ap (node (label.Predicate y)) e
opened_at_closed f c (label.List y) t x h e = ap (node (label.List y)) e

pub opened_closed : (f : Sort → ℕ → Leaf) (c : ℕ) (t : Tree) → IsClosedUnder c t → opened f c t ≡ t
opened_closed f c empty h = refl
opened_closed f c (more a b) h = let x = opened_closed f c a h.0 in let y = opened_closed f c b h.1 in cc (x, y)
opened_closed f c (node l t) h = opened_at_closed f c l t (opened f (c + binders l) t) h.0 (opened_closed f (c + binders l) t h.1)

-- the rule of a statement that binds nothing and is the engine's
module _ (m : Meaning) (mode : Mode) (G : Tree → Type 0) (H : Constraint → Type 0) (D : Hidden → Type 0) (P : Premise → Type 0) (e : Tree) where
  abbrev StandsAs : Tree → Premise → Type 0
  StandsAs s = Stands G P (goal_kind m (unbound s))

  plain_built_in : (s t : Tree) → s ≡ t → (IsHandlers t → ⊥) → IsPlainRule m mode G H D P e s → IsBuiltIn m G H (StandsAs t) e t
  plain_built_in s t same none r =
      ⊎_elim (λ x. absurd (none x.0)) (λ b. b) (subst (IsPlainRule m mode G H D P e) same r)

  pub rule_built_in : (t : Tree) → (IsHandlers t → ⊥) → IsClosed t → IsRule m mode G H D P e (unbound t) → IsBuiltIn m G H (StandsAs t) e t
  rule_built_in t none closed r = ⊎_elim
      (λ x. let q = x.1 in let same : x.0 ≡ t = cc in plain_built_in x.0 t same none x.2)
      (λ x. let q = x.3 in let same : x.1 ≡ t = cc in
      let here : opened x.2 0 x.1 ≡ t = ap (opened x.2 0) same ∙ opened_closed x.2 0 t closed in
      plain_built_in (opened x.2 0 x.1) t here none x.5) r

  pub record Results (K : Premise → Type 0) (d : AliasRelationDirection) (a b : Tree) : Type 0 where
    pub left : Tree
    pub right : Tree
    pub of_left : IsResult G K e a left
    pub of_right : IsResult G K e b right
    pub relate : AreResultsRelated m G H K e (variance_of d) left right

  alias_inverted : (K : Premise → Type 0) (d : AliasRelationDirection) (a b t : Tree) → t ≡ node (label.Predicate (predicate.AliasRelate d)) (pair a b) → IsBuiltIn m G H K e t → Results K d a b
  alias_inverted K d a b t q (region_lives i j h) = cc
  alias_inverted K d a b t q (type_lives i h) = cc
  alias_inverted K d a b t q (subtyped x r) = cc
  alias_inverted K d a b t q (coerced r) = cc
  alias_inverted K d a b t q (const_typed r u x y z) = cc
  alias_inverted K d a b t q (error_typed x) = cc
  alias_inverted K d a b t q (allowed x) = cc
  alias_inverted K d a b t q (dyn_compatible x) = cc
  alias_inverted K d a b t q (formed gs x y) = cc
  alias_inverted K d a b t q constant_evaluated = cc
  alias_inverted K d a b t q value_evaluated = cc
  alias_inverted K d a b t q error_evaluated = cc
  alias_inverted K d a b t q (alias_evaluated x) = cc
  alias_inverted K d a b t q (aliases_relate {a = x} {b = y} {d = c} r s left right both) =
      let i : x ≡ a = cc in
      let j : y ≡ b = cc in
      let k : c ≡ d = cc in
      record {
        left = r;
        right = s;
        of_left = subst (λ z. IsResult G K e z r) i left;
        of_right = subst (λ z. IsResult G K e z s) j right;
        relate = subst (λ z. AreResultsRelated m G H K e (variance_of z) r s) k both;
      }

  subtype_inverted : (K : Premise → Type 0) (x : Bool) (a b t : Tree) → t ≡ node (label.Predicate (predicate.Subtype x)) (pair a b) → IsBuiltIn m G H K e t → RelatedIn m G H K e variance.Covariant a b
  subtype_inverted K x a b t q (region_lives i j h) = cc
  subtype_inverted K x a b t q (type_lives i h) = cc
  subtype_inverted K x a b t q (subtyped {a = c} {b = d} y r) =
      let i : c ≡ a = cc in
      let j : d ≡ b = cc in
      subst (λ z. RelatedIn m G H K e variance.Covariant z b) i (subst (RelatedIn m G H K e variance.Covariant c) j r)
  subtype_inverted K x a b t q (coerced r) = cc
  subtype_inverted K x a b t q (const_typed r u y z w) = cc
  subtype_inverted K x a b t q (error_typed y) = cc
  subtype_inverted K x a b t q (allowed y) = cc
  subtype_inverted K x a b t q (dyn_compatible y) = cc
  subtype_inverted K x a b t q (formed gs y z) = cc
  subtype_inverted K x a b t q constant_evaluated = cc
  subtype_inverted K x a b t q value_evaluated = cc
  subtype_inverted K x a b t q error_evaluated = cc
  subtype_inverted K x a b t q (alias_evaluated y) = cc
  subtype_inverted K x a b t q (aliases_relate r s left right both) = cc

  pub unfold_alias : (d : AliasRelationDirection) (a b : Tree) → IsClosed a → IsClosed b → IsRule m mode G H D P e (unbound (node (label.Predicate (predicate.AliasRelate d)) (pair a b)))
      → Results (StandsAs (node (label.Predicate (predicate.AliasRelate d)) (pair a b))) d a b
  unfold_alias d a b i j r =
      let t = node (label.Predicate (predicate.AliasRelate d)) (pair a b) in
      alias_inverted (StandsAs t) d a b t refl (rule_built_in t (λ x. x) (tt, (i, (j, tt))) r)

  pub unfold_subtype : (x : Bool) (a b : Tree) → IsClosed a → IsClosed b → IsRule m mode G H D P e (unbound (node (label.Predicate (predicate.Subtype x)) (pair a b)))
      → RelatedIn m G H (StandsAs (node (label.Predicate (predicate.Subtype x)) (pair a b))) e variance.Covariant a b
  unfold_subtype x a b i j r =
      let t = node (label.Predicate (predicate.Subtype x)) (pair a b) in
      subtype_inverted (StandsAs t) x a b t refl (rule_built_in t (λ y. y) (tt, (i, (j, tt))) r)
