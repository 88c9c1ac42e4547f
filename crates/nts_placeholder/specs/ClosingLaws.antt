-- What a walk that closes placeholders keeps.
use Rattle.std.proofs.Common.{◌≡◌, ℕ, List, [], Option, Some, None, refl, sym, ap, ◌∙◌}
use Rattle.nts_model.specs.declared.labels.Sort.{Sort}
use Rattle.nts_model.specs.declared.labels.FreeRegion.TheVariants as region
use Rattle.nts_model.specs.declared.labels.Constant.TheVariants as constant
use Rattle.nts_model.specs.declared.labels.Leaf.TheVariants as leaf
use Rattle.nts_model.specs.declared.labels.Label.{Label}
use Rattle.nts_model.specs.declared.labels.Label.TheVariants as label
use Rattle.nts_model.specs.Terms.Trees.{Tree, empty, more, node, kind_of, kind_of_label, of_sort, shape, in_order}
use Rattle.nts_placeholder.specs.declared.maps.Placeholder.{Placeholder}
use Rattle.nts_placeholder.specs.declared.maps.BoundVar.{BoundVar}
use Rattle.nts_placeholder.specs.Closing.{placeholder_of, entry_of, closed_at, closed_placeholder, closed_by}

-- what the maps say, and the list of universes
pub record Closing : Type 0 where
  pub maps : Sort → Placeholder → Option BoundVar
  pub universes : List (Option ℕ)

abbrev pub closing_of : Closing → ℕ → Tree → Tree
closing_of m c t = closed_by m.maps m.universes c t

abbrev pub CanClose : Closing → ℕ → Tree → Type 0
CanClose m c t = Unit {0}

pub closing_of-empty : (m : Closing) (c : ℕ) → closing_of m c empty ≡ empty
closing_of-empty m c = refl

pub closing_of-more : (m : Closing) (c : ℕ) (a b : Tree) → closing_of m c (more a b) ≡ more (closing_of m c a) (closing_of m c b)
closing_of-more m c a b = refl

pub CanClose-more : (m : Closing) (c : ℕ) (a b : Tree) → CanClose m c (more a b) → CanClose m c a × CanClose m c b
CanClose-more m c a b h = (tt, tt)

-- a placeholder is a leaf of its sort
pub record IsLeafOf (l : Label) (s : Sort) : Type 0 where
  pub kind : kind_of_label l ≡ of_sort s
  pub leaf : shape l ≡ in_order []

abbrev sort_in : Option (Sort × Placeholder) → Sort → Sort
sort_in None s = s
sort_in (Some z) s = z.0

first : (s r : Sort) (p q : Placeholder) → ◌≡◌ {A = Option (Sort × Placeholder)} (Some (s, p)) (Some (r, q)) → s ≡ r
first s r p q e = ap (λ (o : Option (Sort × Placeholder)). sort_in o s) e

leaf_of : (l : Label) (s r : Sort) (p q : Placeholder) → kind_of_label l ≡ of_sort s → shape l ≡ in_order [] → ◌≡◌ {A = Option (Sort × Placeholder)} (Some (s, p)) (Some (r, q)) → IsLeafOf l r
leaf_of l s r p q k h e = record { kind = k ∙ ap of_sort (first s r p q e); leaf = h }

pub placeholder_leaf : (l : Label) (s : Sort) (p : Placeholder) → placeholder_of l ≡ Some (s, p) → IsLeafOf l s
placeholder_leaf (label.Leaf (leaf.Region (region.Placeholder u n))) s p e = leaf_of _ _ s _ p refl refl e
placeholder_leaf (label.Leaf (leaf.Region region.Static)) s p e = cc
placeholder_leaf (label.Leaf (leaf.Region (region.EarlyParam n))) s p e = cc
placeholder_leaf (label.Leaf (leaf.Region (region.LateParam n))) s p e = cc
placeholder_leaf (label.Leaf (leaf.Region region.Erased)) s p e = cc
placeholder_leaf (label.Leaf (leaf.Region region.Error)) s p e = cc
placeholder_leaf (label.Leaf (leaf.TyConstant (constant.Placeholder u n))) s p e = leaf_of _ _ s _ p refl refl e
placeholder_leaf (label.Leaf (leaf.TyConstant (constant.Param n))) s p e = cc
placeholder_leaf (label.Leaf (leaf.ConstConstant (constant.Placeholder u n))) s p e = leaf_of _ _ s _ p refl refl e
placeholder_leaf (label.Leaf (leaf.ConstConstant (constant.Param n))) s p e = cc
placeholder_leaf (label.Leaf (leaf.Variable k n)) s p e = cc
placeholder_leaf (label.Bound r i n) s p e = cc
placeholder_leaf (label.Ty h) s p e = cc
placeholder_leaf (label.Const h) s p e = cc
placeholder_leaf (label.Clause h) s p e = cc
placeholder_leaf (label.Predicate h) s p e = cc
placeholder_leaf (label.List h) s p e = cc

closed_at-leaf : (U : List (Option ℕ)) (c : ℕ) (s : Sort) (l : Label) (o : Option BoundVar) (e : Option ℕ) → IsLeafOf l s → IsLeafOf (closed_at U c s l o e) s
closed_at-leaf U c s l (Some b) (Some e) h = record { kind = refl; leaf = refl }
closed_at-leaf U c s l (Some b) None h = h
closed_at-leaf U c s l None e h = h

kind_by : (M : Sort → Placeholder → Option BoundVar) (U : List (Option ℕ)) (c : ℕ) (l : Label) (o : Option (Sort × Placeholder)) → placeholder_of l ≡ o → kind_of_label (closed_placeholder M U c l o) ≡ kind_of_label l
kind_by M U c l None e = refl
kind_by M U c l (Some p) e =
    let was = placeholder_leaf l p.0 p.1 e in (closed_at-leaf U c p.0 l (M p.0 p.1) (entry_of U p.1.universe) was).kind ∙ sym was.kind

pub closing_of-same_kind : (M : Sort → Placeholder → Option BoundVar) (U : List (Option ℕ)) (c : ℕ) (t : Tree) → kind_of (closed_by M U c t) ≡ kind_of t
closing_of-same_kind M U c empty = refl
closing_of-same_kind M U c (more a b) = refl
closing_of-same_kind M U c (node l t) = ap Some (kind_by M U c l (placeholder_of l) refl)

pub closing_of-kind : (m : Closing) (c : ℕ) (t : Tree) → CanClose m c t → kind_of (closing_of m c t) ≡ kind_of t
closing_of-kind m c t h = closing_of-same_kind m.maps m.universes c t
