-- The goal of a query is opened by the engine as its decision opens it, but for regions.
use Rattle.std.proofs.Common.{◌≡◌, inl, inr, ℕ, suc, ◌+◌, true, false, refl, sym, ap, ◌∙◌, arith}
use Rattle.std.specs.Prelude.{◌⊎◌, ◌==◌}
use Rattle.nts_model.specs.declared.labels.Sort.{Sort}
use Rattle.nts_model.specs.declared.labels.VariableKind.TheVariants as kind
use Rattle.nts_model.specs.declared.labels.Leaf.{Leaf}
use Rattle.nts_model.specs.declared.labels.Leaf.TheVariants as leaf
use Rattle.nts_model.specs.declared.labels.BoundVarIndexKind.TheVariants as index
use Rattle.nts_model.specs.declared.labels.Label.{Label}
use Rattle.nts_model.specs.declared.labels.Label.TheVariants as label
use Rattle.nts_model.specs.Terms.Trees.{Tree, empty, more, node, binders}
use Rattle.nts_model.specs.Tables.Contents.{Content}
use Rattle.nts_model.specs.Terms.Substitutions.{leaf_tree, put, replace}
use Rattle.nts_model.specs.Derivations.Related.{pair, unbound}
use Rattle.nts_model.specs.Derivations.Rules.{statement_of, opened, opened_at}
use Rattle.nts_model.specs.Refutation.Opening.{binds, placeholder_in, opened_in}
use Rattle.nts_decisions.specs.Deciding.{blurred_leaf, blurred, blurred_environment, top_level, opened_next}
use Rattle.nts_model.proofs.Terms.Substituting.{replace-equal}
use Rattle.nts_decisions.proofs.BlurredWorlds.{merged_leaf, merged_leaf_tree}
use Rattle.nts_decisions.proofs.Reopening.{opened_if, binding, binding_back}
use Rattle.nts_model.proofs.Terms.Listed.{either as two_ways}

-- blurring before and after
opened_label : (f : Sort → ℕ → Leaf) (c : ℕ) (l : Label) (a t b : Tree) → blurred t ≡ blurred b → opened f (c + binders l) a ≡ b → blurred (opened_at f c l t) ≡ blurred (opened f c (put blurred_leaf l a))
opened_label f c (label.Leaf (leaf.Region r)) a t b e q = refl
opened_label f c (label.Leaf (leaf.Variable kind.Region n)) a t b e q = refl
opened_label f c (label.Leaf (leaf.Variable kind.Ty n)) a t b e q = refl
opened_label f c (label.Leaf (leaf.Variable kind.Int n)) a t b e q = refl
opened_label f c (label.Leaf (leaf.Variable kind.Float n)) a t b e q = refl
opened_label f c (label.Leaf (leaf.Variable kind.Const n)) a t b e q = refl
opened_label f c (label.Leaf (leaf.TyConstant x)) a t b e q = refl
opened_label f c (label.Leaf (leaf.ConstConstant x)) a t b e q = refl
opened_label f c (label.Bound s (index.Bound d) n) a t b e q = opened_if (d == c) (f s n) (f s n) s d n t (opened f (c + 0) a) refl (e ∙ ap blurred (sym q))
opened_label f c (label.Bound s index.Canonical n) a t b e q = ap (node (label.Bound s index.Canonical n)) (e ∙ ap blurred (sym q))
opened_label f c (label.Ty x) a t b e q = ap (node (label.Ty x)) (e ∙ ap blurred (sym q))
opened_label f c (label.Const x) a t b e q = ap (node (label.Const x)) (e ∙ ap blurred (sym q))
opened_label f c (label.Clause x) a t b e q = ap (node (label.Clause x)) (e ∙ ap blurred (sym q))
opened_label f c (label.Predicate x) a t b e q = ap (node (label.Predicate x)) (e ∙ ap blurred (sym q))
opened_label f c (label.List x) a t b e q = ap (node (label.List x)) (e ∙ ap blurred (sym q))

opened_blurred : (f : Sort → ℕ → Leaf) (c : ℕ) (t : Tree) → blurred (opened f c t) ≡ blurred (opened f c (blurred t))
opened_blurred f c empty = refl
opened_blurred f c (more a b) = cc (opened_blurred f c a, opened_blurred f c b)
opened_blurred f c (node l t) = opened_label f c l (blurred t) (opened f (c + binders l) t) (opened f (c + binders l) (blurred t)) (opened_blurred f (c + binders l) t) refl

pub as_leaves : (t : Tree) → blurred t ≡ replace (λ l. leaf_tree (merged_leaf l)) t
as_leaves t = replace-equal blurred_leaf (λ l. leaf_tree (merged_leaf l)) (λ l. sym (merged_leaf_tree l)) t

-- where the table's universe is the greatest of the goal
pub opened_so : (c : Content) (e g : Tree) → top_level (pair (blurred_environment e) (blurred g)) ≡ c.universe → blurred (opened_in c g) ≡ opened_next (blurred_environment e) (blurred g)
opened_so c e g u = go (two_ways (binds g)) (two_ways (binds (blurred g)))
  where
    go : (binds g ≡ true) ⊎ (binds g ≡ false) → (binds (blurred g) ≡ true) ⊎ (binds (blurred g) ≡ false) → blurred (opened_in c g) ≡ opened_next (blurred_environment e) (blurred g)
    go (inl h) (inl k) =
        (let b = binding g h in
        let says : statement_of (blurred g) ≡ blurred (statement_of g) = ap (λ z. statement_of (blurred z)) b.is ∙ ap (λ z. blurred (statement_of z)) (sym b.is) in
        let next : suc (top_level (pair (blurred_environment e) (blurred g))) ≡ c.universe + 1 = omega (arith, u) in
        let left : blurred (opened_in c g) ≡ unbound (blurred (opened (placeholder_in (c.universe + 1)) 0 (statement_of g))) = rw h refl in
        let right : opened_next (blurred_environment e) (blurred g) ≡ unbound (blurred (opened (placeholder_in (suc (top_level (pair (blurred_environment e) (blurred g))))) 0 (statement_of (blurred g)))) = rw k refl in
        left ∙ ap unbound (opened_blurred (placeholder_in (c.universe + 1)) 0 (statement_of g) ∙ ap (λ z. blurred (opened (placeholder_in (c.universe + 1)) 0 z)) (sym says) ∙ ap (λ z. blurred (opened (placeholder_in z) 0 (statement_of (blurred g)))) (sym next)) ∙ sym right)
    go (inr h) (inr k) = rw (h, k) refl
    go (inl h) (inr k) =
        (let b = binding g h in let q : binds (blurred g) ≡ true = ap (λ z. binds (blurred z)) b.is in absurd (cc (q, k)))
    go (inr h) (inl k) =
        (let b = binding (blurred g) k in
        let q : binds g ≡ true = binding_back merged_leaf g b.sort b.sorts b.says (sym (as_leaves g) ∙ b.is) in absurd (cc (q, h)))
