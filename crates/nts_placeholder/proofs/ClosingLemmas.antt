-- What is closed.
use Rattle.std.proofs.Common.{◌≡◌, ℕ, ◌+◌, ◌<◌, Bool, true, false, ◌||◌, List, [], ◌∷◌, length, Option, Some, None, refl, sym, ap, ◌∙◌, cond, arith}
use Rattle.nts_model.specs.declared.labels.Sort.{Sort}
use Rattle.nts_model.specs.declared.labels.FreeRegion.TheVariants as region
use Rattle.nts_model.specs.declared.labels.Constant.TheVariants as constant
use Rattle.nts_model.specs.declared.labels.Leaf.TheVariants as leaf
use Rattle.nts_model.specs.declared.labels.Label.{Label}
use Rattle.nts_model.specs.declared.labels.Label.TheVariants as label
use Rattle.nts_model.specs.Terms.Trees.{Tree, empty, more, node, binders, children, shape, in_order, HavePlaces, Meets, any_label, is_placeholder}
use Rattle.nts_placeholder.specs.declared.maps.Placeholder.{Placeholder}
use Rattle.nts_placeholder.specs.declared.maps.BoundVar.{BoundVar}
use Rattle.nts_placeholder.specs.Closing.{placeholder_of, one_on, is_universe, entry_of, closed_placeholder, closed_label, closed_by}
use Rattle.nts_replacing.specs.Under.{GoesInside}

no_placeholder : (l : Label) → is_placeholder l ≡ false → placeholder_of l ≡ None
no_placeholder (label.Leaf (leaf.Region (region.Placeholder u n))) h = cc
no_placeholder (label.Leaf (leaf.Region region.Static)) h = refl
no_placeholder (label.Leaf (leaf.Region (region.EarlyParam n))) h = refl
no_placeholder (label.Leaf (leaf.Region (region.LateParam n))) h = refl
no_placeholder (label.Leaf (leaf.Region region.Erased)) h = refl
no_placeholder (label.Leaf (leaf.Region region.Error)) h = refl
no_placeholder (label.Leaf (leaf.TyConstant (constant.Placeholder u n))) h = cc
no_placeholder (label.Leaf (leaf.TyConstant (constant.Param n))) h = refl
no_placeholder (label.Leaf (leaf.ConstConstant (constant.Placeholder u n))) h = cc
no_placeholder (label.Leaf (leaf.ConstConstant (constant.Param n))) h = refl
no_placeholder (label.Leaf (leaf.Variable k n)) h = refl
no_placeholder (label.Bound r i n) h = refl
no_placeholder (label.Ty x) h = refl
no_placeholder (label.Const x) h = refl
no_placeholder (label.Clause x) h = refl
no_placeholder (label.Predicate x) h = refl
no_placeholder (label.List x) h = refl

or_first : (p q : Bool) → (p || q) ≡ false → p ≡ false
or_first true q h = cc
or_first false q h = refl

or_second : (p q : Bool) → (p || q) ≡ false → q ≡ false
or_second true q h = cc
or_second false q h = h

module _ (M : Sort → Placeholder → Option BoundVar) (U : List (Option ℕ)) where
  pub label_stays : (c : ℕ) (l : Label) → placeholder_of l ≡ None → closed_label M U c l ≡ l
  label_stays c l e = ap (closed_placeholder M U c l) e

  -- a tree without placeholders stays
  pub closed_none : (c : ℕ) (t : Tree) → any_label is_placeholder t ≡ false → closed_by M U c t ≡ t
  closed_none c empty h = refl
  closed_none c (more a b) h =
      cc (closed_none c a (or_first (any_label is_placeholder a) (any_label is_placeholder b) h), closed_none c b (or_second (any_label is_placeholder a) (any_label is_placeholder b) h))
  closed_none c (node l t) h =
      cc (label_stays c l (no_placeholder l (or_first (is_placeholder l) (any_label is_placeholder t) h)), closed_none (c + binders l) t (or_second (is_placeholder l) (any_label is_placeholder t) h))

-- an entry is of the list
pub entry_low : (U : List (Option ℕ)) (u e : ℕ) → entry_of U u ≡ Some e → e < length U
entry_low [] u e h = cc
entry_low (x ∷ U) u e h = by_case (entry_low U u) (is_universe x u) refl
  where
    first : Some 0 ≡ Some e → e < length (x ∷ U)
    first q = let z : 0 ≡ e = cc in omega (arith, z)

    later : ((d : ℕ) → entry_of U u ≡ Some d → d < length U) → (o : Option ℕ) → entry_of U u ≡ o → one_on o ≡ Some e → e < length (x ∷ U)
    later low None k q = cc
    later low (Some d) k q = let z : d + 1 ≡ e = cc in omega (arith, z, low d k)

    by_case : ((d : ℕ) → entry_of U u ≡ Some d → d < length U) → (b : Bool) → is_universe x u ≡ b → e < length (x ∷ U)
    by_case low true k = first (sym (ap (λ z. cond z (Some 0) (one_on (entry_of U u))) k) ∙ h)
    by_case low false k = later low (entry_of U u) refl (sym (ap (λ z. cond z (Some 0) (one_on (entry_of U u))) k) ∙ h)
