-- What a handler denies is proved by no rule; and it is denied as well once it is opened, renamed or seen in a world.
use Rattle.std.proofs.Common.{◌≡◌, inl, inr, ℕ, ◌+◌, Bool, true, false, refl, sym, ap, ◌∙◌, subst}
use Rattle.std.specs.Prelude.{◌==◌, if◌then◌else◌, IsTrue}
use Rattle.nts_model.specs.declared.labels.Sort.{Sort}
use Rattle.nts_model.specs.declared.labels.Leaf.{Leaf}
use Rattle.nts_model.specs.declared.labels.BoundVarIndexKind.TheVariants as index
use Rattle.nts_model.specs.declared.labels.PredicateHead.TheVariants as predicate
use Rattle.nts_model.specs.declared.labels.ListHead.TheVariants as list
use Rattle.nts_model.specs.declared.labels.Label.{Label}
use Rattle.nts_model.specs.declared.labels.Label.TheVariants as label
use Rattle.nts_model.specs.Terms.Trees.{Tree, empty, more, node}
use Rattle.nts_model.specs.Tables.Contents.{Content}
use Rattle.nts_model.specs.Tables.Worlds.{World, inst}
use Rattle.nts_model.specs.Terms.Substitutions.{leaf_tree, replace}
use Rattle.nts_model.specs.Derivations.Related.{Constraint, unbound}
use Rattle.nts_model.specs.Derivations.Sequents.{Premise, Hidden}
use Rattle.nts_model.specs.Derivations.Rules.{Mode, Meaning, goal_kind, Stands, statement_of, opened, opened_at, IsHandlers, IsBuiltIn, IsPlainRule, IsRule}
use Rattle.nts_model.specs.Derivations.Rules.{region_lives, type_lives, subtyped, coerced, const_typed, error_typed, allowed, dyn_compatible, formed, constant_evaluated, value_evaluated, error_evaluated, alias_evaluated, aliases_relate}
use Rattle.nts_model.specs.Derivations.Handlers.{Candidate, Judgements}
use Rattle.nts_model.specs.Refutation.Opening.{binds, placeholder_in, opened_in}
use Rattle.nts_theory.specs.Affirming.{IsAffirmed, feature_allowed, has_objects, named_const, value_const, error_const, error_type, evaluated_const, IsDenied, IsOwnWay, by_type, by_goals}
use Rattle.nts_theory.specs.Refutation.Refutation.{HasNoAlias}

-- no rule of a handler is about such statements
pub affirmed_no_handlers : (j : Judgements) (e s : Tree) → IsAffirmed j e s → IsHandlers s → ⊥
affirmed_no_handlers j e s (feature_allowed x) h = h
affirmed_no_handlers j e s (has_objects x) h = h
affirmed_no_handlers j e s named_const h = h
affirmed_no_handlers j e s value_const h = h
affirmed_no_handlers j e s error_const h = h
affirmed_no_handlers j e s error_type h = h
affirmed_no_handlers j e s (evaluated_const x) h = h

pub denied_no_handlers : (j : Judgements) (s : Tree) → IsDenied j s → IsHandlers s → ⊥
denied_no_handlers j s d h = subst IsHandlers d.is h

pub way_no_handlers : (j : Judgements) (e s : Tree) (x : Candidate) → IsOwnWay j e s x → IsHandlers s → ⊥
way_no_handlers j e s x by_type h = h
way_no_handlers j e s x (by_goals given) h = h

-- that objects of a trait can be made
abbrev compatible : ℕ → Tree
compatible i = node (label.Predicate (predicate.DynCompatible i)) empty

-- only the engine's own rule gives it
same_trait : (i k : ℕ) → compatible i ≡ compatible k → i ≡ k
same_trait i k e = cc e

judged_so : (m : Meaning) (G : Tree → Type 0) (H : Constraint → Type 0) (P : Premise → Type 0) (e t : Tree) (k : ℕ) → IsBuiltIn m G H P e t → t ≡ compatible k → IsTrue (m.is_dyn_compatible k)
judged_so m G H P e t k (dyn_compatible {i = i} x) q = subst (λ z. IsTrue (m.is_dyn_compatible z)) (same_trait i k q) x
judged_so m G H P e t k (region_lives i j x) q = cc q
judged_so m G H P e t k (type_lives i x) q = cc q
judged_so m G H P e t k (subtyped x r) q = cc q
judged_so m G H P e t k (coerced r) q = cc q
judged_so m G H P e t k (const_typed r u x y z) q = cc q
judged_so m G H P e t k (error_typed x) q = cc q
judged_so m G H P e t k (allowed x) q = cc q
judged_so m G H P e t k (formed gs x y) q = cc q
judged_so m G H P e t k constant_evaluated q = cc q
judged_so m G H P e t k value_evaluated q = cc q
judged_so m G H P e t k error_evaluated q = cc q
judged_so m G H P e t k (alias_evaluated x) q = cc q
judged_so m G H P e t k (aliases_relate r s x y z) q = cc q

module _ (m : Meaning) (j : Judgements) (judged : (i : ℕ) → m.is_dyn_compatible i ≡ j.is_dyn_compatible i) (mode : Mode) (G : Tree → Type 0) (H : Constraint → Type 0) (D : Hidden → Type 0) (P : Premise → Type 0) where
  not_both : (b : Bool) → IsTrue b → b ≡ false → ⊥
  not_both true t e = cc e
  not_both false t e = (let z : false ≡ true = t in cc z)

  plain_denied : (e s : Tree) → IsDenied j s → IsPlainRule m mode G H D P e s → ⊥
  plain_denied e s d (inl (h, a)) = denied_no_handlers j s d h
  plain_denied e s d (inr b) = not_both (m.is_dyn_compatible d.of_trait) (judged_so m G H (Stands G P (goal_kind m (unbound s))) e s d.of_trait b d.is) (judged d.of_trait ∙ d.has_none)

  statement_unbound : (g s : Tree) → g ≡ unbound s → statement_of g ≡ s
  statement_unbound g s e = ap statement_of e

  pub rule_denied : (e g : Tree) → IsDenied j (statement_of g) → IsRule m mode G H D P e g → ⊥
  rule_denied e g d (inl (s, is, r)) = plain_denied e s (subst (IsDenied j) (ap statement_of is) d) r
  rule_denied e g d (inr (sorts, s, f, is, fresh, r)) =
      let there : IsDenied j s = subst (IsDenied j) (ap statement_of is) d in
      plain_denied e (opened f 0 s) (record { of_trait = there.of_trait; is = ap (opened f 0) there.is; has_none = there.has_none }) r

-- what a renaming, or a world, makes of a goal
statement_replaced : (f : Leaf → Tree) (g : Tree) (k : ℕ) → statement_of g ≡ compatible k → statement_of (replace f g) ≡ compatible k
statement_replaced f (node (label.List list.Binder) (more v (more s empty))) k e = ap (replace f) e
statement_replaced f g k e = cc e

pub denied_replaced : (j : Judgements) (f : Leaf → Tree) (g : Tree) → IsDenied j (statement_of g) → IsDenied j (statement_of (replace f g))
denied_replaced j f g d = record { of_trait = d.of_trait; is = statement_replaced f g d.of_trait d.is; has_none = d.has_none }

statement_inst : (w : World) (g : Tree) (k : ℕ) → statement_of g ≡ compatible k → statement_of (inst w g) ≡ compatible k
statement_inst w (node (label.List list.Binder) (more v (more s empty))) k e = ap (inst w) e
statement_inst w g k e = cc e

pub denied_inst : (j : Judgements) (w : World) (g : Tree) → IsDenied j (statement_of g) → IsDenied j (statement_of (inst w g))
denied_inst j w g d = record { of_trait = d.of_trait; is = statement_inst w g d.of_trait d.is; has_none = d.has_none }

-- what is denied once it is opened was denied before
not_empty : (f : Sort → ℕ → Leaf) (b : Bool) (l : Leaf) (m : Label) (u : Tree) → (if b then leaf_tree l else node m u) ≡ empty → ⊥
not_empty f true l m u e = cc e
not_empty f false l m u e = cc e

opened_node : (f : Sort → ℕ → Leaf) (c : ℕ) (l : Label) (u : Tree) → opened_at f c l u ≡ empty → ⊥
opened_node f c (label.Bound s (index.Bound d) n) u e = not_empty f (d == c) (f s n) (label.Bound s (index.Bound d) n) u e
opened_node f c l u e = cc e

opened_empty : (f : Sort → ℕ → Leaf) (c : ℕ) (t : Tree) → opened f c t ≡ empty → t ≡ empty
opened_empty f c empty e = refl
opened_empty f c (more a b) e = cc e
opened_empty f c (node l t) e = absurd (opened_node f c l _ e)

not_compatible : (f : Sort → ℕ → Leaf) (b : Bool) (l : Leaf) (s : Sort) (d n k : ℕ) (u : Tree) → (if b then leaf_tree l else node (label.Bound s (index.Bound d) n) u) ≡ compatible k → ⊥
not_compatible f true l s d n k u e = cc e
not_compatible f false l s d n k u e = cc e

child : (l m : Label) (t u : Tree) → node l t ≡ node m u → t ≡ u
child l m t u e = cc e

pub opened_compatible : (f : Sort → ℕ → Leaf) (s : Tree) (k : ℕ) → opened f 0 s ≡ compatible k → s ≡ compatible k
opened_compatible f (node (label.Predicate (predicate.DynCompatible i)) c) k e =
    let none = opened_empty f 0 c (child (label.Predicate (predicate.DynCompatible i)) (label.Predicate (predicate.DynCompatible k)) (opened f 0 c) empty e) in
    let same : i ≡ k = cc e in
    cc (none, same)
opened_compatible f (node (label.Bound s (index.Bound d) n) c) k e = absurd (not_compatible f (d == 0) (f s n) s d n k _ e)
opened_compatible f t k e = cc e

pub denied_before : (j : Judgements) (c : Content) (g : Tree) → IsDenied j (statement_of (opened_in c g)) → IsDenied j (statement_of g)
denied_before j c g d = record { of_trait = d.of_trait; is = by_bool (binds g) refl; has_none = d.has_none }
  where
    by_bool : (b : Bool) → binds g ≡ b → statement_of g ≡ compatible d.of_trait
    by_bool false q = (let o : opened_in c g ≡ g = rw q refl in ap statement_of (sym o) ∙ d.is)
    by_bool true q =
        let o : opened_in c g ≡ unbound (opened (placeholder_in (c.universe + 1)) 0 (statement_of g)) = rw q refl in
        opened_compatible (placeholder_in (c.universe + 1)) (statement_of g) d.of_trait (ap statement_of (sym o) ∙ d.is)

-- no alias stands in what is denied
pub denied_plain : (j : Judgements) (s : Tree) → IsDenied j s → HasNoAlias s
denied_plain j s d = subst HasNoAlias (sym d.is) (refl, tt)
