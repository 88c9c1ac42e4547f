-- Labels of aliases and of regions.
use Rattle.std.proofs.Common.{◌≡◌, ℕ, true, false, Some, refl, sym, ap, ◌∙◌, subst}
use Rattle.nts_model.specs.declared.labels.Sort.TheVariants as sort
use Rattle.nts_model.specs.declared.labels.VariableKind.{VariableKind}
use Rattle.nts_model.specs.declared.labels.VariableKind.TheVariants as kind
use Rattle.nts_model.specs.declared.labels.Leaf.TheVariants as leaf
use Rattle.nts_model.specs.declared.labels.AliasHead.{AliasHead}
use Rattle.nts_model.specs.declared.labels.AliasHead.TheVariants as alias_of
use Rattle.nts_model.specs.declared.labels.Label.{Label}
use Rattle.nts_model.specs.declared.labels.Label.TheVariants as label
use Rattle.nts_model.specs.Terms.Trees.{Tree, empty, more, node, kind_of, of_sort, is_alias, IsBoundBelow, IsClosedUnder}
use Rattle.nts_model.specs.Terms.Regions.{RegionName, IsRegion, name_of_label, name_of_variable}
use Rattle.nts_model.specs.Derivations.Related.{alias_label, IsAlias}
use Rattle.nts_model.proofs.Tables.Fitting.{region_label}
use Rattle.nts_model.proofs.Tables.AlikeNodes.{alias_label_is as alias_is_alias}

pub not_alias : (l : Label) (c : Tree) → is_alias l ≡ false → IsAlias (node l c) → ⊥
not_alias l c e x =
    let h = x.is in
    let same : l ≡ alias_label x.head = cc in
    let two : is_alias l ≡ true = ap is_alias same ∙ alias_is_alias x.head in
    cc

pub row_no_alias : (a b : Tree) → IsAlias (more a b) → ⊥
row_no_alias a b x = let h = x.is in cc

pub empty_no_alias : IsAlias empty → ⊥
empty_no_alias x = let h = x.is in cc

region_kind_leaf : (k : VariableKind) (n : ℕ) (x : RegionName) → name_of_variable k n ≡ Some x → kind_of (node (label.Leaf (leaf.Variable k n)) empty) ≡ Some (of_sort sort.Region)
region_kind_leaf kind.Region n x q = refl
region_kind_leaf kind.Ty n x q = cc
region_kind_leaf kind.Int n x q = cc
region_kind_leaf kind.Float n x q = cc
region_kind_leaf kind.Const n x q = cc

region_leaf : (l : Label) (x : RegionName) → name_of_label l ≡ Some x → ((c : ℕ) → IsBoundBelow c l) × (is_alias l ≡ false) × (kind_of (node l empty) ≡ Some (of_sort sort.Region))
region_leaf (label.Leaf (leaf.Region r)) x e = ((λ c. tt), refl, refl)
region_leaf (label.Leaf (leaf.Variable k n)) x e = ((λ c. tt), refl, region_kind_leaf k n x e)
region_leaf (label.Leaf (leaf.TyConstant a)) x e = cc
region_leaf (label.Leaf (leaf.ConstConstant a)) x e = cc
region_leaf (label.Bound a b d) x e = cc
region_leaf (label.Ty h) x e = cc
region_leaf (label.Const h) x e = cc
region_leaf (label.Clause h) x e = cc
region_leaf (label.Predicate h) x e = cc
region_leaf (label.List h) x e = cc

pub record RegionTree (t : Tree) : Type 0 where
  pub label : Label
  pub is : t ≡ node label empty
  pub closed : (c : ℕ) → IsBoundBelow c label
  pub no_alias : is_alias label ≡ false
  pub kind : kind_of (node label empty) ≡ Some (of_sort sort.Region)

pub region_tree_of : (t : Tree) → IsRegion t → RegionTree t
region_tree_of empty r = let e = r.1 in cc
region_tree_of (more a b) r = let e = r.1 in cc
region_tree_of (node l t) r =
    let h = region_label l t r.0 r.1 in
    let x = region_leaf l r.0 h.0 in
    record { label = l; is = ap (node l) h.1; closed = x.0; no_alias = x.1; kind = x.2 }

pub region_closed : (c : ℕ) (t : Tree) → IsRegion t → IsClosedUnder c t
region_closed c t r = let x = region_tree_of t r in subst (IsClosedUnder c) (sym x.is) (x.closed c, tt)

pub region_kind : (t : Tree) → IsRegion t → kind_of t ≡ Some (of_sort sort.Region)
region_kind t r = let x = region_tree_of t r in ap kind_of x.is ∙ x.kind
