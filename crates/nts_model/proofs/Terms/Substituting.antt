-- Replacing leaves: twice is once, and instances of terms are terms; instances compose.
use Rattle.std.proofs.Common.{◌≡◌, ℕ, ◌+◌, ◌≤◌, true, List, [], ◌∷◌, Some, None, refl, ap, ◌∙◌, arith}
use Rattle.nts_model.specs.declared.labels.Sort.TheVariants as sort
use Rattle.nts_model.specs.declared.labels.VariableKind.{VariableKind}
use Rattle.nts_model.specs.declared.labels.VariableKind.TheVariants as kind
use Rattle.nts_model.specs.declared.labels.BoundVarIndexKind.TheVariants as index
use Rattle.nts_model.specs.declared.labels.Leaf.{Leaf}
use Rattle.nts_model.specs.declared.labels.Leaf.TheVariants as leaf
use Rattle.nts_model.specs.declared.labels.Label.{Label}
use Rattle.nts_model.specs.declared.labels.Label.TheVariants as label
use Rattle.nts_model.specs.Terms.Trees.{Tree, empty, more, node, kind_of, of_sort, kind_of_label, sort_of_variable, label_of, binders, IsBoundBelow, IsClosedUnder, IsClosed, Place, FitsPlace, in_order, each, HavePlaces, AllFit, Meets, shape, Shape, IsFormed}
use Rattle.nts_model.specs.Terms.Regions.{RegionName, region_name, name_of_label, IsRegion}
use Rattle.nts_model.specs.Terms.Fitting.{is_integer, is_float, HasLabel, Fits}
use Rattle.nts_model.specs.Terms.Substitutions.{leaf_tree, put, replace, FitsLeaf}

-- replacing twice
replace-put : (f g : Leaf → Tree) (l : Label) (c : Tree) → replace f (put g l c) ≡ put (λ x. replace f (g x)) l (replace f c)
replace-put f g (label.Leaf x) c = refl
replace-put f g (label.Bound a b d) c = refl
replace-put f g (label.Ty h) c = refl
replace-put f g (label.Const h) c = refl
replace-put f g (label.Clause h) c = refl
replace-put f g (label.Predicate h) c = refl
replace-put f g (label.List h) c = refl

pub replace-replace : (f g : Leaf → Tree) (t : Tree) → replace f (replace g t) ≡ replace (λ l. replace f (g l)) t
replace-replace f g empty = refl
replace-replace f g (more a b) = cc (replace-replace f g a, replace-replace f g b)
replace-replace f g (node l c) = replace-put f g l (replace g c) ∙ ap (put (λ x. replace f (g x)) l) (replace-replace f g c)

-- equal maps
put-equal : (f g : Leaf → Tree) → ((l : Leaf) → f l ≡ g l) → (l : Label) (c d : Tree) → c ≡ d → put f l c ≡ put g l d
put-equal f g e (label.Leaf x) c d h = e x
put-equal f g e (label.Bound a b n) c d h = cc
put-equal f g e (label.Ty x) c d h = cc
put-equal f g e (label.Const x) c d h = cc
put-equal f g e (label.Clause x) c d h = cc
put-equal f g e (label.Predicate x) c d h = cc
put-equal f g e (label.List x) c d h = cc

pub replace-equal : (f g : Leaf → Tree) → ((l : Leaf) → f l ≡ g l) → (t : Tree) → replace f t ≡ replace g t
replace-equal f g e empty = refl
replace-equal f g e (more a b) = cc (replace-equal f g e a, replace-equal f g e b)
replace-equal f g e (node l c) = put-equal f g e l (replace f c) (replace g c) (replace-equal f g e c)

-- a formed leaf has no children
pub no_children : (c : Tree) → HavePlaces [] c → c ≡ empty
no_children empty h = refl
no_children (more a b) h = absurd h
no_children (node l c) h = absurd h

pub leaf_alone : (l : Leaf) (c : Tree) → IsFormed (node (label.Leaf l) c) → c ≡ empty
leaf_alone l c h = no_children c h.0

-- each leaf for itself
put-leaf : (l : Label) (c d : Tree) → IsFormed (node l c) → d ≡ c → put leaf_tree l d ≡ node l c
put-leaf (label.Leaf x) c d h e = rw (leaf_alone x c h) refl
put-leaf (label.Bound a b n) c d h e = cc
put-leaf (label.Ty x) c d h e = cc
put-leaf (label.Const x) c d h e = cc
put-leaf (label.Clause x) c d h e = cc
put-leaf (label.Predicate x) c d h e = cc
put-leaf (label.List x) c d h e = cc

pub replace-leaf : (t : Tree) → IsFormed t → replace leaf_tree t ≡ t
replace-leaf empty h = refl
replace-leaf (more a b) h = cc (replace-leaf a h.0, replace-leaf b h.1)
replace-leaf (node l c) h = put-leaf l c (replace leaf_tree c) h (replace-leaf c h.1)

-- the trees are of the leaves' kinds
abbrev pub KeepsKinds : (Leaf → Tree) → Type 0
KeepsKinds f = (l : Leaf) → kind_of (f l) ≡ Some (kind_of_label (label.Leaf l))

kind_of-put : (f : Leaf → Tree) → KeepsKinds f → (l : Label) (c : Tree) → kind_of (put f l c) ≡ Some (kind_of_label l)
kind_of-put f k (label.Leaf x) c = k x
kind_of-put f k (label.Bound a b n) c = refl
kind_of-put f k (label.Ty x) c = refl
kind_of-put f k (label.Const x) c = refl
kind_of-put f k (label.Clause x) c = refl
kind_of-put f k (label.Predicate x) c = refl
kind_of-put f k (label.List x) c = refl

pub kind_of-replace : (f : Leaf → Tree) → KeepsKinds f → (t : Tree) → kind_of (replace f t) ≡ kind_of t
kind_of-replace f k empty = refl
kind_of-replace f k (more a b) = refl
kind_of-replace f k (node l c) = kind_of-put f k l (replace f c)

FitsPlace-replace : (f : Leaf → Tree) → KeepsKinds f → (p : Place) (t : Tree) → FitsPlace p (kind_of t) → FitsPlace p (kind_of (replace f t))
FitsPlace-replace f k p t h = rw (kind_of-replace f k t) h

HavePlaces-replace : (f : Leaf → Tree) → KeepsKinds f → (ps : List Place) (t : Tree) → HavePlaces ps t → HavePlaces ps (replace f t)
HavePlaces-replace f k [] empty h = tt
HavePlaces-replace f k [] (more a b) h = absurd h
HavePlaces-replace f k [] (node l c) h = absurd h
HavePlaces-replace f k (p ∷ ps) empty h = absurd h
HavePlaces-replace f k (p ∷ ps) (more a b) h = (FitsPlace-replace f k p a h.0, HavePlaces-replace f k ps b h.1)
HavePlaces-replace f k (p ∷ ps) (node l c) h = absurd h

AllFit-replace : (f : Leaf → Tree) → KeepsKinds f → (p : Place) (t : Tree) → AllFit p t → AllFit p (replace f t)
AllFit-replace f k p empty h = tt
AllFit-replace f k p (more a b) h = (FitsPlace-replace f k p a h.0, AllFit-replace f k p b h.1)
AllFit-replace f k p (node l c) h = absurd h

Meets-replace : (f : Leaf → Tree) → KeepsKinds f → (s : Shape) (t : Tree) → Meets s t → Meets s (replace f t)
Meets-replace f k (in_order ps) t h = HavePlaces-replace f k ps t h
Meets-replace f k (each p) t h = AllFit-replace f k p t h

IsFormed-put : (f : Leaf → Tree) → ((l : Leaf) → IsFormed (f l)) → (l : Label) (c : Tree) → Meets (shape l) c → IsFormed c → IsFormed (put f l c)
IsFormed-put f k (label.Leaf x) c h i = k x
IsFormed-put f k (label.Bound a b n) c h i = (h, i)
IsFormed-put f k (label.Ty x) c h i = (h, i)
IsFormed-put f k (label.Const x) c h i = (h, i)
IsFormed-put f k (label.Clause x) c h i = (h, i)
IsFormed-put f k (label.Predicate x) c h i = (h, i)
IsFormed-put f k (label.List x) c h i = (h, i)

pub IsFormed-replace : (f : Leaf → Tree) → KeepsKinds f → ((l : Leaf) → IsFormed (f l)) → (t : Tree) → IsFormed t → IsFormed (replace f t)
IsFormed-replace f k q empty h = tt
IsFormed-replace f k q (more a b) h = (IsFormed-replace f k q a h.0, IsFormed-replace f k q b h.1)
IsFormed-replace f k q (node l c) h = IsFormed-put f q l (replace f c) (Meets-replace f k (shape l) c h.0) (IsFormed-replace f k q c h.1)

-- closed trees for leaves
pub bound_below_more : (a b : ℕ) (l : Label) → a ≤ b → IsBoundBelow a l → IsBoundBelow b l
bound_below_more a b (label.Bound s (index.Bound d) n) h k = omega (arith, h, k)
bound_below_more a b (label.Bound s index.Canonical n) h k = tt
bound_below_more a b (label.Leaf x) h k = tt
bound_below_more a b (label.Ty x) h k = tt
bound_below_more a b (label.Const x) h k = tt
bound_below_more a b (label.Clause x) h k = tt
bound_below_more a b (label.Predicate x) h k = tt
bound_below_more a b (label.List x) h k = tt

pub closed_under_more : (a b : ℕ) (t : Tree) → a ≤ b → IsClosedUnder a t → IsClosedUnder b t
closed_under_more a b empty h k = tt
closed_under_more a b (more s t) h k = (closed_under_more a b s h k.0, closed_under_more a b t h k.1)
closed_under_more a b (node l t) h k = (bound_below_more a b l h k.0, closed_under_more (a + binders l) (b + binders l) t (omega (arith, h)) k.1)

IsClosed-put : (f : Leaf → Tree) → ((l : Leaf) → IsClosed (f l)) → (b : ℕ) (l : Label) (c : Tree) → IsBoundBelow b l → IsClosedUnder (b + binders l) c → IsClosedUnder b (put f l c)
IsClosed-put f q b (label.Leaf x) c h i = closed_under_more 0 b (f x) (omega arith) (q x)
IsClosed-put f q b (label.Bound a d n) c h i = (h, i)
IsClosed-put f q b (label.Ty x) c h i = (h, i)
IsClosed-put f q b (label.Const x) c h i = (h, i)
IsClosed-put f q b (label.Clause x) c h i = (h, i)
IsClosed-put f q b (label.Predicate x) c h i = (h, i)
IsClosed-put f q b (label.List x) c h i = (h, i)

pub IsClosed-replace : (f : Leaf → Tree) → ((l : Leaf) → IsClosed (f l)) → (b : ℕ) (t : Tree) → IsClosedUnder b t → IsClosedUnder b (replace f t)
IsClosed-replace f q b empty h = tt
IsClosed-replace f q b (more s t) h = (IsClosed-replace f q b s h.0, IsClosed-replace f q b t h.1)
IsClosed-replace f q b (node l t) h = IsClosed-put f q b l (replace f t) h.0 (IsClosed-replace f q (b + binders l) t h.1)

-- what fits a leaf is of the leaf's kind
integer_kind : (t : Tree) → HasLabel is_integer (label_of t) → kind_of t ≡ Some (of_sort sort.Ty)
integer_kind empty h = absurd h
integer_kind (more a b) h = absurd h
integer_kind (node l c) h = ap Some (go l h)
  where
    go : (l : Label) → is_integer l ≡ true → kind_of_label l ≡ of_sort sort.Ty
    go (label.Ty x) e = refl
    go (label.Leaf (leaf.Variable kind.Int n)) e = refl
    go l e = cc

float_kind : (t : Tree) → HasLabel is_float (label_of t) → kind_of t ≡ Some (of_sort sort.Ty)
float_kind empty h = absurd h
float_kind (more a b) h = absurd h
float_kind (node l c) h = ap Some (go l h)
  where
    go : (l : Label) → is_float l ≡ true → kind_of_label l ≡ of_sort sort.Ty
    go (label.Ty x) e = refl
    go (label.Leaf (leaf.Variable kind.Float n)) e = refl
    go l e = cc

-- a region is a leaf
pub record IsRegionLeaf (t : Tree) : Type 0 where
  pub of_leaf : Leaf
  pub is : t ≡ leaf_tree of_leaf
  pub region : (f : Leaf → Tree) → ((l : Leaf) → FitsLeaf l (f l)) → IsRegion (f of_leaf)

pub region_alone : (l : Label) (c : Tree) (x : RegionName) → region_name (node l c) ≡ Some x → (name_of_label l ≡ Some x) × (c ≡ empty)
region_alone l empty x e = (e, refl)
region_alone l (more a b) x e = cc
region_alone l (node m d) x e = cc

leaf_of_name : (l : Label) (x : RegionName) → name_of_label l ≡ Some x → IsRegionLeaf (node l empty)
leaf_of_name (label.Leaf (leaf.Variable kind.Region n)) x e = record { of_leaf = leaf.Variable kind.Region n; is = refl; region = λ f h. h (leaf.Variable kind.Region n) }
leaf_of_name (label.Leaf (leaf.Region r)) x e = record { of_leaf = leaf.Region r; is = refl; region = λ f h. h (leaf.Region r) }
leaf_of_name l x e = absurd (none_some x e)
  where
    none_some : (x : RegionName) → None ≡ Some x → ⊥
    none_some x e = cc e

pub region_leaf : (t : Tree) → IsRegion t → IsRegionLeaf t
region_leaf empty (x, e) = absurd (none_some x e)
  where
    none_some : (x : RegionName) → None ≡ Some x → ⊥
    none_some x e = cc e
region_leaf (more a b) (x, e) = absurd (none_some x e)
  where
    none_some : (x : RegionName) → None ≡ Some x → ⊥
    none_some x e = cc e
region_leaf (node l c) (x, e) =
    let (named, alone) = region_alone l c x e in
    rw alone (leaf_of_name l x named)

pub name_kind : (l : Label) (x : RegionName) → name_of_label l ≡ Some x → kind_of_label l ≡ of_sort sort.Region
name_kind (label.Leaf (leaf.Variable kind.Region n)) x e = refl
name_kind (label.Leaf (leaf.Region r)) x e = refl
name_kind l x e = cc

region_kind : (t : Tree) → IsRegion t → kind_of t ≡ Some (of_sort sort.Region)
region_kind empty (x, e) = cc e
region_kind (more a b) (x, e) = cc e
region_kind (node l c) (x, e) = ap Some (name_kind l x (region_alone l c x e).0)

fits_kind : (k : VariableKind) (t : Tree) → Fits k t → kind_of t ≡ Some (of_sort (sort_of_variable k))
fits_kind kind.Ty t h = h
fits_kind kind.Const t h = h
fits_kind kind.Int t h = integer_kind t h
fits_kind kind.Float t h = float_kind t h
fits_kind kind.Region t h = region_kind t h

pub fits_leaf_kind : (l : Leaf) (t : Tree) → FitsLeaf l t → kind_of t ≡ Some (kind_of_label (label.Leaf l))
fits_leaf_kind (leaf.Variable k n) t h = fits_kind k t h
fits_leaf_kind (leaf.Region r) t h = region_kind t h
fits_leaf_kind (leaf.TyConstant a) t (b, e) = ap kind_of e
fits_leaf_kind (leaf.ConstConstant a) t (b, e) = ap kind_of e
