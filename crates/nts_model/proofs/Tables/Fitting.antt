-- Closed trees that fit variables: under values, and in worlds.
use Rattle.std.proofs.Common.{◌≡◌, inl, inr, ⊎_elim, ℕ, ◌+◌, ◌≤◌, Bool, true, false, List, [], ◌∷◌, Option, Some, None, refl, sym, ap, ◌∙◌, arith, rules}
use Rattle.std.specs.Prelude.{◌==◌, if◌then◌else◌}
use Rattle.nts_model.specs.declared.labels.Sort.TheVariants as sort
use Rattle.nts_model.specs.declared.labels.VariableKind.{VariableKind}
use Rattle.nts_model.specs.declared.labels.VariableKind.TheVariants as kind
use Rattle.nts_model.specs.declared.labels.BoundVarIndexKind.TheVariants as index
use Rattle.nts_model.specs.declared.labels.Leaf.TheVariants as leaf
use Rattle.nts_model.specs.declared.labels.Label.{Label}
use Rattle.nts_model.specs.declared.labels.Label.TheVariants as label
use Rattle.nts_model.specs.Terms.Trees.{Tree, empty, more, node, kind_of, of_sort, kind_of_label, sort_of_variable, label_of, binders, IsBoundBelow, IsClosedUnder, IsClosed, IsFormed, Place, FitsPlace, in_order, each, HavePlaces, AllFit, Meets, Shape, shape, infer_of, variable_of, variable_tree}
use Rattle.nts_model.specs.Tables.Contents.{Content, kind_at}
use Rattle.nts_model.specs.Tables.Resolving.{number_of, replaced, replaced_at, Lacks, under, IsOneOf, Knows, KnowsVariable}
use Rattle.nts_model.specs.Terms.Regions.{RegionName, of_variable, of_free, region_tree, region_name, name_of_label, IsRegion}
use Rattle.nts_model.specs.Terms.Fitting.{is_integer, is_float, HasLabel, Fits}
use Rattle.nts_model.specs.Tables.Worlds.{World, renamed, placed, inst, IsValue, IsFitting}
use Rattle.nts_model.proofs.Terms.Variables.{infer_label, infer_of_region}
use Rattle.nts_model.proofs.Tables.Open.{AreClosedOf, Knows-under}
use Rattle.nts_model.proofs.Tables.Kept.{variable_label}
use Rattle.nts_model.proofs.Tables.Readings.{name_label}
use Rattle.nts_model.proofs.Terms.Substituting.{bound_below_more as IsBoundBelow-more, name_kind as region_sort}

pub IsClosedUnder-more : (a b : ℕ) (t : Tree) → a ≤ b → IsClosedUnder a t → IsClosedUnder b t
IsClosedUnder-more a b empty h k = tt
IsClosedUnder-more a b (more s t) h k = (IsClosedUnder-more a b s h k.0, IsClosedUnder-more a b t h k.1)
IsClosedUnder-more a b (node l t) h k = (IsBoundBelow-more a b l h k.0, IsClosedUnder-more (a + binders l) (b + binders l) t (omega (arith, h)) k.1)

pub IsClosed-under : (b : ℕ) (t : Tree) → IsClosed t → IsClosedUnder b t
IsClosed-under b t h = IsClosedUnder-more 0 b t (omega arith) h

-- closed trees in place of variables
IsClosed-replaced_at : (b n : ℕ) (o : Option ℕ) (s : Tree) (l : Label) (t x : Tree) → IsClosed s → IsClosedUnder b (node l t) → IsClosedUnder (b + binders l) x → IsClosedUnder b (replaced_at o n s (node l t) (node l x))
IsClosed-replaced_at b n None s l t x h k q = (k.0, q)
IsClosed-replaced_at b n (Some m) s l t x h k q = by_case (m == n)
  where
    by_case : (z : Bool) → IsClosedUnder b (if z then s else node l t)
    by_case true = IsClosed-under b s h
    by_case false = k

pub IsClosed-replaced : (b n : ℕ) (s t : Tree) → IsClosed s → IsClosedUnder b t → IsClosedUnder b (replaced n s t)
IsClosed-replaced b n s empty h k = tt
IsClosed-replaced b n s (more x y) h k = (IsClosed-replaced b n s x h k.0, IsClosed-replaced b n s y h k.1)
IsClosed-replaced b n s (node l t) h k = IsClosed-replaced_at b n (infer_of l) s l t (replaced n s t) h k (IsClosed-replaced (b + binders l) n s t h k.1)

-- a region has no children
pub region_label : (l : Label) (t : Tree) (x : RegionName) → region_name (node l t) ≡ Some x → (name_of_label l ≡ Some x) × (t ≡ empty)
region_label l empty x e = (e, refl)
region_label l (more a b) x e = cc
region_label l (node m t) x e = cc

name_no_infer : (l : Label) (x : RegionName) → name_of_label l ≡ Some x → infer_of l ≡ None
name_no_infer l x e = ⊎_elim (λ v. infer_of_region l v.0 v.1) (λ r. (let q = r.1 in rw q refl)) (name_label l x e)

-- .. and is no variable of another kind
pub IsRegion-no_infer : (l : Label) (t : Tree) → IsRegion (node l t) → infer_of l ≡ None
IsRegion-no_infer l t h = name_no_infer l h.0 (region_label l t h.0 h.1).0

-- integer and float types are types
integer_type : (l : Label) → is_integer l ≡ true → kind_of_label l ≡ of_sort sort.Ty
integer_type (label.Ty h) e = refl
integer_type (label.Leaf (leaf.Variable kind.Int n)) e = refl
integer_type l e = cc

float_type : (l : Label) → is_float l ≡ true → kind_of_label l ≡ of_sort sort.Ty
float_type (label.Ty h) e = refl
float_type (label.Leaf (leaf.Variable kind.Float n)) e = refl
float_type l e = cc

integer_is_type : (s : Tree) → HasLabel is_integer (label_of s) → kind_of s ≡ Some (of_sort sort.Ty)
integer_is_type empty h = absurd h
integer_is_type (more a b) h = absurd h
integer_is_type (node l c) h = ap Some (integer_type l h)

float_is_type : (s : Tree) → HasLabel is_float (label_of s) → kind_of s ≡ Some (of_sort sort.Ty)
float_is_type empty h = absurd h
float_is_type (more a b) h = absurd h
float_is_type (node l c) h = ap Some (float_type l h)

pub Fits-kind_of : (k : VariableKind) (t : Tree) → Fits k t → kind_of t ≡ Some (of_sort (sort_of_variable k))
Fits-kind_of kind.Ty t h = h
Fits-kind_of kind.Const t h = h
Fits-kind_of kind.Int t h = integer_is_type t h
Fits-kind_of kind.Float t h = float_is_type t h
Fits-kind_of kind.Region empty h = let e = h.1 in cc
Fits-kind_of kind.Region (more a b) h = let e = h.1 in cc
Fits-kind_of kind.Region (node l t) h = ap Some (region_sort l h.0 (region_label l t h.0 h.1).0)

-- what a variable may stand for, a variable that fits another one stands for too
integer_variable : (j : VariableKind) (m : ℕ) → is_integer (label.Leaf (leaf.Variable j m)) ≡ true → j ≡ kind.Int
integer_variable kind.Int m e = refl
integer_variable j m e = cc

float_variable : (j : VariableKind) (m : ℕ) → is_float (label.Leaf (leaf.Variable j m)) ≡ true → j ≡ kind.Float
float_variable kind.Float m e = refl
float_variable j m e = cc

const_variable : (j : VariableKind) → Some (of_sort (sort_of_variable j)) ≡ Some (of_sort sort.Const) → j ≡ kind.Const
const_variable kind.Const e = refl
const_variable j e = cc

region_variable : (j : VariableKind) (m : ℕ) (x : RegionName) → name_of_label (label.Leaf (leaf.Variable j m)) ≡ Some x → j ≡ kind.Region
region_variable kind.Region m x e = refl
region_variable j m x e = cc

type_variable : (j : VariableKind) (s : Tree) → Some (of_sort (sort_of_variable j)) ≡ Some (of_sort sort.Ty) → Fits j s → kind_of s ≡ Some (of_sort sort.Ty)
type_variable j s e h = Fits-kind_of j s h ∙ e

pub Fits-variable : (j k : VariableKind) (m : ℕ) (c s : Tree) → Fits k (node (label.Leaf (leaf.Variable j m)) c) → Fits j s → Fits k s
Fits-variable j kind.Ty m c s h q = type_variable j s h q
Fits-variable j kind.Const m c s h q = rw (const_variable j h) at q
Fits-variable j kind.Int m c s h q = rw (integer_variable j m h) at q
Fits-variable j kind.Float m c s h q = rw (float_variable j m h) at q
Fits-variable j kind.Region m c s h q = rw (region_variable j m h.0 (region_label (label.Leaf (leaf.Variable j m)) c h.0 h.1).0) at q

-- .. under one more value
Fits-replaced_at : (c : Content) (k : VariableKind) (n : ℕ) (s : Tree) (l : Label) (t x : Tree) (o : Option ℕ) → infer_of l ≡ o → KnowsVariable c (variable_of l) → ((j : VariableKind) → kind_at c n ≡ Some j → Fits j s) → Fits k (node l t) → (o ≡ None → Fits k (node l x)) → Fits k (replaced_at o n s (node l t) (node l x))
Fits-replaced_at c k n s l t x None e p h f g = g refl
Fits-replaced_at c k n s l t x (Some m) e p h f g = by_case (m == n) refl
  where
    by_case : (z : Bool) → (m == n) ≡ z → Fits k (if z then s else node l t)
    by_case false q = f
    by_case true q =
        let v = infer_label l m e in
        let same : m ≡ n = search (rules, q) in
        let has : kind_at c m ≡ Some v.of_kind = rw v.is at p in
        let this : Fits k (node (label.Leaf (leaf.Variable v.of_kind m)) t) = rw (← variable_label l v.of_kind m v.is) f in
        Fits-variable v.of_kind k m t s this (h v.of_kind (rw (← same) has))

Fits-children : (k : VariableKind) (n : ℕ) (s : Tree) (l : Label) (t : Tree) → Fits k (node l t) → Fits k (node l (replaced n s t))
Fits-children kind.Ty n s l t h = h
Fits-children kind.Const n s l t h = h
Fits-children kind.Int n s l t h = h
Fits-children kind.Float n s l t h = h
Fits-children kind.Region n s l t h =
    let alone : t ≡ empty = (region_label l t h.0 h.1).1 in
    let stays : replaced n s t ≡ t = ap (replaced n s) alone ∙ sym alone in
    rw stays h

pub Fits-replaced : (c : Content) (k : VariableKind) (n : ℕ) (s t : Tree) → Knows c t → ((j : VariableKind) → kind_at c n ≡ Some j → Fits j s) → Fits k t → Fits k (replaced n s t)
Fits-replaced c k n s empty p h f = f
Fits-replaced c k n s (more a b) p h f = by_kind k f
  where
    by_kind : (j : VariableKind) → Fits j (more a b) → Fits j (more (replaced n s a) (replaced n s b))
    by_kind kind.Ty e = e
    by_kind kind.Const e = e
    by_kind kind.Int e = e
    by_kind kind.Float e = e
    by_kind kind.Region e = (e.0, e.1)
Fits-replaced c k n s (node l t) p h f =
    Fits-replaced_at c k n s l t (replaced n s t) (infer_of l) refl p.0.0 h f (λ e. Fits-children k n s l t f)

-- values that fit, under values that do
pub IsClosed-values : (val : ℕ → Tree) (ns : List ℕ) (b : ℕ) (t : Tree) → ((n : ℕ) → IsOneOf n ns → IsClosed (val n)) → IsClosedUnder b t → IsClosedUnder b (under val ns t)
IsClosed-values val [] b t h k = k
IsClosed-values val (n ∷ ns) b t h k =
    IsClosed-replaced b n (under val ns (val n)) (under val ns t)
    (IsClosed-values val ns 0 (val n) (λ m q. h m (inr q)) (h n (inl refl)))
    (IsClosed-values val ns b t (λ m q. h m (inr q)) k)

pub Fits-values : (c : Content) (val : ℕ → Tree) (ns : List ℕ) (k : VariableKind) (t : Tree) → AreClosedOf c val → ((n : ℕ) (j : VariableKind) → IsOneOf n ns → kind_at c n ≡ Some j → Fits j (val n)) → Knows c t → Fits k t → Fits k (under val ns t)
Fits-values c val [] k t h f p v = v
Fits-values c val (n ∷ ns) k t h f p v =
    let older : (m : ℕ) (j : VariableKind) → IsOneOf m ns → kind_at c m ≡ Some j → Fits j (val m) = λ m j q e. f m j (inr q) e in
    Fits-replaced c k n (under val ns (val n)) (under val ns t) (Knows-under c val ns t h p)
    (λ j e. Fits-values c val ns j (val n) h older (h n).0 (f n j (inl refl) e))
    (Fits-values c val ns k t h older p v)

-- a variable stands for itself
pub IsValue-variable : (k : VariableKind) (n : ℕ) → IsValue k (variable_tree k n)
IsValue-variable kind.Ty n = record { fits = refl; closed = (tt, tt); formed = (tt, tt) }
IsValue-variable kind.Const n = record { fits = refl; closed = (tt, tt); formed = (tt, tt) }
IsValue-variable kind.Int n = record { fits = refl; closed = (tt, tt); formed = (tt, tt) }
IsValue-variable kind.Float n = record { fits = refl; closed = (tt, tt); formed = (tt, tt) }
IsValue-variable kind.Region n = record { fits = (of_variable n, refl); closed = (tt, tt); formed = (tt, tt) }

-- a region is a value of a region variable
pub IsValue-region : (x : RegionName) → IsValue kind.Region (region_tree x)
IsValue-region (of_variable n) = record { fits = (of_variable n, refl); closed = (tt, tt); formed = (tt, tt) }
IsValue-region (of_free r) = record { fits = (of_free r, refl); closed = (tt, tt); formed = (tt, tt) }

-- instances in a world whose trees are closed and fit
pub binders-renamed : (w : World) (l : Label) → binders (renamed w l) ≡ binders l
binders-renamed w (label.Leaf (leaf.Region r)) = refl
binders-renamed w (label.Leaf (leaf.Variable k n)) = refl
binders-renamed w (label.Leaf (leaf.TyConstant a)) = refl
binders-renamed w (label.Leaf (leaf.ConstConstant a)) = refl
binders-renamed w (label.Bound a b d) = refl
binders-renamed w (label.Ty h) = refl
binders-renamed w (label.Const h) = refl
binders-renamed w (label.Clause h) = refl
binders-renamed w (label.Predicate h) = refl
binders-renamed w (label.List h) = refl

IsBoundBelow-renamed : (w : World) (b : ℕ) (l : Label) → IsBoundBelow b l → IsBoundBelow b (renamed w l)
IsBoundBelow-renamed w b (label.Leaf (leaf.Region r)) h = tt
IsBoundBelow-renamed w b (label.Leaf (leaf.Variable k n)) h = tt
IsBoundBelow-renamed w b (label.Leaf (leaf.TyConstant a)) h = tt
IsBoundBelow-renamed w b (label.Leaf (leaf.ConstConstant a)) h = tt
IsBoundBelow-renamed w b (label.Bound x y z) h = h
IsBoundBelow-renamed w b (label.Ty x) h = tt
IsBoundBelow-renamed w b (label.Const x) h = tt
IsBoundBelow-renamed w b (label.Clause x) h = tt
IsBoundBelow-renamed w b (label.Predicate x) h = tt
IsBoundBelow-renamed w b (label.List x) h = tt

IsClosed-placed : (c : Content) (w : World) (b : ℕ) (l : Label) (x : Tree) (o : Option (VariableKind × ℕ)) → IsFitting c w → KnowsVariable c o → IsBoundBelow b l → IsClosedUnder (b + binders l) x → IsClosedUnder b (placed w (number_of o) l x)
IsClosed-placed c w b l x None f p h k = (IsBoundBelow-renamed w b l h, rw (binders-renamed w l) k)
IsClosed-placed c w b l x (Some v) f p h k = IsClosed-under b (w.tree v.1) (f.each v.1 v.0 p).closed

pub IsClosed-inst : (c : Content) (w : World) (b : ℕ) (t : Tree) → IsFitting c w → Knows c t → IsClosedUnder b t → IsClosedUnder b (inst w t)
IsClosed-inst c w b empty f p h = tt
IsClosed-inst c w b (more x y) f p h = (IsClosed-inst c w b x f p.0 h.0, IsClosed-inst c w b y f p.1 h.1)
IsClosed-inst c w b (node l t) f p h = IsClosed-placed c w b l (inst w t) (variable_of l) f p.0.0 h.0 (IsClosed-inst c w (b + binders l) t f p.1 h.1)

pub kind_of_label-renamed : (w : World) (l : Label) → kind_of_label (renamed w l) ≡ kind_of_label l
kind_of_label-renamed w (label.Leaf (leaf.Region r)) = refl
kind_of_label-renamed w (label.Leaf (leaf.Variable k n)) = refl
kind_of_label-renamed w (label.Leaf (leaf.TyConstant a)) = refl
kind_of_label-renamed w (label.Leaf (leaf.ConstConstant a)) = refl
kind_of_label-renamed w (label.Bound a b d) = refl
kind_of_label-renamed w (label.Ty h) = refl
kind_of_label-renamed w (label.Const h) = refl
kind_of_label-renamed w (label.Clause h) = refl
kind_of_label-renamed w (label.Predicate h) = refl
kind_of_label-renamed w (label.List h) = refl

integer-renamed : (w : World) (l : Label) → is_integer l ≡ true → is_integer (renamed w l) ≡ true
integer-renamed w (label.Ty h) e = e
integer-renamed w (label.Leaf (leaf.Variable k n)) e = e
integer-renamed w l e = cc

float-renamed : (w : World) (l : Label) → is_float l ≡ true → is_float (renamed w l) ≡ true
float-renamed w (label.Ty h) e = e
float-renamed w (label.Leaf (leaf.Variable k n)) e = e
float-renamed w l e = cc

region-renamed : (w : World) (l : Label) (x : RegionName) → variable_of l ≡ None → name_of_label l ≡ Some x → IsRegion (node (renamed w l) empty)
region-renamed w l x none e = ⊎_elim
    (λ v. (let z : None ≡ Some (kind.Region, v.0) = sym none ∙ v.1 in cc))
    (λ r. (let q = r.1 in rw q (of_free (w.region r.0), refl))) (name_label l x e)

Fits-renamed : (w : World) (k : VariableKind) (l : Label) (t : Tree) → variable_of l ≡ None → Fits k (node l t) → Fits k (node (renamed w l) (inst w t))
Fits-renamed w kind.Ty l t e h = ap Some (kind_of_label-renamed w l) ∙ h
Fits-renamed w kind.Const l t e h = ap Some (kind_of_label-renamed w l) ∙ h
Fits-renamed w kind.Int l t e h = integer-renamed w l h
Fits-renamed w kind.Float l t e h = float-renamed w l h
Fits-renamed w kind.Region l t e h =
    let r = region_label l t h.0 h.1 in
    let alone : t ≡ empty = r.1 in
    rw alone (region-renamed w l h.0 e r.0)

Fits-placed : (c : Content) (w : World) (k : VariableKind) (l : Label) (t : Tree) (o : Option (VariableKind × ℕ)) → variable_of l ≡ o → IsFitting c w → KnowsVariable c o → Fits k (node l t) → Fits k (placed w (number_of o) l (inst w t))
Fits-placed c w k l t None e f p h = Fits-renamed w k l t e h
Fits-placed c w k l t (Some v) e f p h =
    let this : Fits k (node (label.Leaf (leaf.Variable v.0 v.1)) t) = rw (← variable_label l v.0 v.1 e) h in
    Fits-variable v.0 k v.1 t (w.tree v.1) this (f.each v.1 v.0 p).fits

pub Fits-inst : (c : Content) (w : World) (k : VariableKind) (t : Tree) → IsFitting c w → Knows c t → Fits k t → Fits k (inst w t)
Fits-inst c w k empty f p h = h
Fits-inst c w k (more x y) f p h = by_kind k h
  where
    by_kind : (j : VariableKind) → Fits j (more x y) → Fits j (more (inst w x) (inst w y))
    by_kind kind.Ty e = e
    by_kind kind.Const e = e
    by_kind kind.Int e = e
    by_kind kind.Float e = e
    by_kind kind.Region e = (e.0, e.1)
Fits-inst c w k (node l t) f p h = Fits-placed c w k l t (variable_of l) refl f p.0.0 h

shape-renamed : (w : World) (l : Label) → shape (renamed w l) ≡ shape l
shape-renamed w (label.Leaf (leaf.Region r)) = refl
shape-renamed w (label.Leaf (leaf.Variable k n)) = refl
shape-renamed w (label.Leaf (leaf.TyConstant a)) = refl
shape-renamed w (label.Leaf (leaf.ConstConstant a)) = refl
shape-renamed w (label.Bound a b d) = refl
shape-renamed w (label.Ty h) = refl
shape-renamed w (label.Const h) = refl
shape-renamed w (label.Clause h) = refl
shape-renamed w (label.Predicate h) = refl
shape-renamed w (label.List h) = refl

kind_of-placed : (c : Content) (w : World) (l : Label) (x : Tree) (o : Option (VariableKind × ℕ)) → variable_of l ≡ o → IsFitting c w → KnowsVariable c o → kind_of (placed w (number_of o) l x) ≡ Some (kind_of_label l)
kind_of-placed c w l x None e f p = ap Some (kind_of_label-renamed w l)
kind_of-placed c w l x (Some v) e f p =
    Fits-kind_of v.0 (w.tree v.1) ((f.each v.1 v.0 p).fits) ∙ ap (λ z. Some (kind_of_label z)) (sym (variable_label l v.0 v.1 e))

kind_of-inst : (c : Content) (w : World) (t : Tree) → IsFitting c w → Knows c t → kind_of (inst w t) ≡ kind_of t
kind_of-inst c w empty f p = refl
kind_of-inst c w (more a b) f p = refl
kind_of-inst c w (node l t) f p = kind_of-placed c w l (inst w t) (variable_of l) refl f p.0.0

FitsPlace-inst : (c : Content) (w : World) (q : Place) (t : Tree) → IsFitting c w → Knows c t → FitsPlace q (kind_of t) → FitsPlace q (kind_of (inst w t))
FitsPlace-inst c w q t f p h = rw (kind_of-inst c w t f p) h

HavePlaces-inst : (c : Content) (w : World) (qs : List Place) (t : Tree) → IsFitting c w → Knows c t → HavePlaces qs t → HavePlaces qs (inst w t)
HavePlaces-inst c w [] empty f p h = tt
HavePlaces-inst c w [] (more a b) f p h = absurd h
HavePlaces-inst c w [] (node l t) f p h = absurd h
HavePlaces-inst c w (q ∷ qs) empty f p h = absurd h
HavePlaces-inst c w (q ∷ qs) (more a b) f p h = (FitsPlace-inst c w q a f p.0 h.0, HavePlaces-inst c w qs b f p.1 h.1)
HavePlaces-inst c w (q ∷ qs) (node l t) f p h = absurd h

AllFit-inst : (c : Content) (w : World) (q : Place) (t : Tree) → IsFitting c w → Knows c t → AllFit q t → AllFit q (inst w t)
AllFit-inst c w q empty f p h = tt
AllFit-inst c w q (more a b) f p h = (FitsPlace-inst c w q a f p.0 h.0, AllFit-inst c w q b f p.1 h.1)
AllFit-inst c w q (node l t) f p h = absurd h

Meets-inst : (c : Content) (w : World) (s : Shape) (t : Tree) → IsFitting c w → Knows c t → Meets s t → Meets s (inst w t)
Meets-inst c w (in_order qs) t f p h = HavePlaces-inst c w qs t f p h
Meets-inst c w (each q) t f p h = AllFit-inst c w q t f p h

IsFormed-placed : (c : Content) (w : World) (l : Label) (x : Tree) (o : Option (VariableKind × ℕ)) → IsFitting c w → KnowsVariable c o → Meets (shape l) x → IsFormed x → IsFormed (placed w (number_of o) l x)
IsFormed-placed c w l x None f p h k = (rw (shape-renamed w l) h, k)
IsFormed-placed c w l x (Some v) f p h k = (f.each v.1 v.0 p).formed

pub IsFormed-inst : (c : Content) (w : World) (t : Tree) → IsFitting c w → Knows c t → IsFormed t → IsFormed (inst w t)
IsFormed-inst c w empty f p h = tt
IsFormed-inst c w (more a b) f p h = (IsFormed-inst c w a f p.0 h.0, IsFormed-inst c w b f p.1 h.1)
IsFormed-inst c w (node l t) f p h = IsFormed-placed c w l (inst w t) (variable_of l) f p.0.0 (Meets-inst c w (shape l) t f p.1 h.0) (IsFormed-inst c w t f p.1 h.1)

pub IsValue-inst : (c : Content) (w : World) (k : VariableKind) (t : Tree) → IsFitting c w → Knows c t → IsValue k t → IsValue k (inst w t)
IsValue-inst c w k t f p h = record { fits = Fits-inst c w k t f p h.fits; closed = IsClosed-inst c w 0 t f p h.closed; formed = IsFormed-inst c w t f p h.formed }
