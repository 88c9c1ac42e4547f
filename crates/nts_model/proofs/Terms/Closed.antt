-- A tree is closed or not.
use Rattle.nts_model.specs.Terms.Trees.{IsBoundBelow, IsClosedUnder, Tree, binders, empty, more, node}
use Rattle.std.proofs.Common.{List, arith, inl, inr, suc, zero, ℕ, ⊎_elim, ◌+◌, ◌<◌, ◌∙◌, ◌∷◌, ◌≡◌, ◌⊎◌}
use Rattle.nts_model.specs.declared.labels.BoundVarIndexKind.TheVariants as index
use Rattle.nts_model.specs.declared.labels.Label.{Label}
use Rattle.nts_model.specs.declared.labels.Label.TheVariants as label

-- whether a tree is closed
pub below_or_not : (b d : ℕ) → (d < b) ⊎ (d < b → ⊥)
below_or_not zero d = inr (λ h. omega (arith, h))
below_or_not (suc b) zero = inl (omega arith)
below_or_not (suc b) (suc d) = ⊎_elim (λ h. inl (omega (arith, h))) (λ n. inr (λ h. n (omega (arith, h)))) (below_or_not b d)

bound_or_not : (b : ℕ) (l : Label) → IsBoundBelow b l ⊎ (IsBoundBelow b l → ⊥)
bound_or_not b (label.Bound s (index.Bound d) n) = below_or_not b d
bound_or_not b (label.Bound s index.Canonical n) = inl tt
bound_or_not b (label.Leaf x) = inl tt
bound_or_not b (label.Ty x) = inl tt
bound_or_not b (label.Const x) = inl tt
bound_or_not b (label.Clause x) = inl tt
bound_or_not b (label.Predicate x) = inl tt
bound_or_not b (label.List x) = inl tt

both_or_not : {A B : Type 0} → A ⊎ (A → ⊥) → B ⊎ (B → ⊥) → (A × B) ⊎ (A × B → ⊥)
both_or_not (inl a) (inl b) = inl (a, b)
both_or_not (inl a) (inr n) = inr (λ h. n h.1)
both_or_not (inr n) h = inr (λ x. n x.0)

pub closed_or_not : (b : ℕ) (t : Tree) → IsClosedUnder b t ⊎ (IsClosedUnder b t → ⊥)
closed_or_not b empty = inl tt
closed_or_not b (more x y) = both_or_not (closed_or_not b x) (closed_or_not b y)
closed_or_not b (node l t) = both_or_not (bound_or_not b l) (closed_or_not (b + binders l) t)
