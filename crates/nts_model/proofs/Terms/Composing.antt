-- Instances compose, and each tree is an instance of itself.
use Rattle.std.proofs.Common.{◌≡◌, true, refl, sym, ap, ◌∙◌}
use Rattle.nts_model.specs.declared.labels.VariableKind.{VariableKind}
use Rattle.nts_model.specs.declared.labels.VariableKind.TheVariants as kind
use Rattle.nts_model.specs.declared.labels.TyHead.TheVariants as ty
use Rattle.nts_model.specs.declared.labels.Leaf.{Leaf}
use Rattle.nts_model.specs.declared.labels.Leaf.TheVariants as leaf
use Rattle.nts_model.specs.declared.labels.Label.{Label}
use Rattle.nts_model.specs.declared.labels.Label.TheVariants as label
use Rattle.nts_model.specs.Terms.Trees.{Tree, empty, more, node, label_of, IsClosed, IsFormed}
use Rattle.nts_model.specs.Terms.Regions.{of_variable, of_free}
use Rattle.nts_model.specs.Terms.Fitting.{is_integer, is_float, HasLabel, Fits}
use Rattle.nts_model.specs.Terms.Substitutions.{leaf_tree, put, FitsLeaf, IsConstant, Instance, instance_of}
use Rattle.nts_model.proofs.Terms.Substituting.{replace-replace, replace-leaf, kind_of-replace, IsFormed-replace, IsClosed-replace, fits_leaf_kind, region_leaf, KeepsKinds}

pub instance_kinds : (ι : Instance) → KeepsKinds ι.value
instance_kinds ι l = fits_leaf_kind l (ι.value l) (ι.fits l)

pub IsFormed-instance : (ι : Instance) (t : Tree) → IsFormed t → IsFormed (instance_of ι t)
IsFormed-instance ι t h = IsFormed-replace ι.value (instance_kinds ι) ι.formed t h

pub IsClosed-instance : (ι : Instance) (t : Tree) → IsClosed t → IsClosed (instance_of ι t)
IsClosed-instance ι t h = IsClosed-replace ι.value ι.closed 0 t h

-- an instance of what fits a leaf fits it
integer_put : (ι : Instance) (l : Label) (c : Tree) → is_integer l ≡ true → HasLabel is_integer (label_of (put ι.value l c))
integer_put ι (label.Ty (ty.Int i)) c e = refl
integer_put ι (label.Ty (ty.Uint i)) c e = refl
integer_put ι (label.Leaf (leaf.Variable kind.Int n)) c e = ι.fits (leaf.Variable kind.Int n)
integer_put ι l c e = cc e

float_put : (ι : Instance) (l : Label) (c : Tree) → is_float l ≡ true → HasLabel is_float (label_of (put ι.value l c))
float_put ι (label.Ty (ty.Float i)) c e = refl
float_put ι (label.Leaf (leaf.Variable kind.Float n)) c e = ι.fits (leaf.Variable kind.Float n)
float_put ι l c e = cc e

pub Fits-instance : (ι : Instance) (k : VariableKind) (t : Tree) → Fits k t → Fits k (instance_of ι t)
Fits-instance ι kind.Ty t h = kind_of-replace ι.value (instance_kinds ι) t ∙ h
Fits-instance ι kind.Const t h = kind_of-replace ι.value (instance_kinds ι) t ∙ h
Fits-instance ι kind.Int empty h = absurd h
Fits-instance ι kind.Int (more a b) h = absurd h
Fits-instance ι kind.Int (node l c) h = integer_put ι l (instance_of ι c) h
Fits-instance ι kind.Float empty h = absurd h
Fits-instance ι kind.Float (more a b) h = absurd h
Fits-instance ι kind.Float (node l c) h = float_put ι l (instance_of ι c) h
Fits-instance ι kind.Region t h = let r = region_leaf t h in rw r.is (r.region ι.value ι.fits)

pub FitsLeaf-instance : (ι : Instance) (l : Leaf) (t : Tree) → FitsLeaf l t → FitsLeaf l (instance_of ι t)
FitsLeaf-instance ι (leaf.Variable k n) t h = Fits-instance ι k t h
FitsLeaf-instance ι (leaf.Region r) t h = Fits-instance ι kind.Region t h
FitsLeaf-instance ι (leaf.TyConstant a) t (b, e) = rw e (ι.fits (leaf.TyConstant b))
FitsLeaf-instance ι (leaf.ConstConstant a) t (b, e) = rw e (ι.fits (leaf.ConstConstant b))

-- a constant's value is a constant
record IsConstantValue (ι : Instance) (l : Leaf) : Type 0 where
  pub of_leaf : Leaf
  pub constant : IsConstant of_leaf
  pub is : ι.value l ≡ leaf_tree of_leaf

constant_value : (ι : Instance) (l : Leaf) → IsConstant l → IsConstantValue ι l
constant_value ι (leaf.TyConstant a) h = let (b, e) = ι.fits (leaf.TyConstant a) in record { of_leaf = leaf.TyConstant b; constant = tt; is = e }
constant_value ι (leaf.ConstConstant a) h = let (b, e) = ι.fits (leaf.ConstConstant a) in record { of_leaf = leaf.ConstConstant b; constant = tt; is = e }
constant_value ι (leaf.Variable k n) h = absurd h
constant_value ι (leaf.Region r) h = absurd h

distinct_after : (κ ι : Instance) (l m : Leaf) → IsConstant l → IsConstant m → instance_of κ (ι.value l) ≡ instance_of κ (ι.value m) → l ≡ m
distinct_after κ ι l m h i e =
    let a = constant_value ι l h in
    let b = constant_value ι m i in
    let values : κ.value a.of_leaf ≡ κ.value b.of_leaf = sym (ap (instance_of κ) a.is) ∙ e ∙ ap (instance_of κ) b.is in
    let same : a.of_leaf ≡ b.of_leaf = κ.distinct a.of_leaf b.of_leaf a.constant b.constant values in
    ι.distinct l m h i (a.is ∙ ap leaf_tree same ∙ sym b.is)

-- one instance after another
pub after : Instance → Instance → Instance
after κ ι =
    record {
      value = λ l. instance_of κ (ι.value l);
      fits = λ l. FitsLeaf-instance κ l (ι.value l) (ι.fits l);
      formed = λ l. IsFormed-instance κ (ι.value l) (ι.formed l);
      closed = λ l. IsClosed-instance κ (ι.value l) (ι.closed l);
      distinct = distinct_after κ ι;
      stays = λ r h. (let e = ι.stays r h in rw e (κ.stays r h));
    }

pub instance_of-after : (κ ι : Instance) (t : Tree) → instance_of (after κ ι) t ≡ instance_of κ (instance_of ι t)
unfolding after
instance_of-after κ ι t = sym (replace-replace κ.value ι.value t)

-- each leaf for itself
pub fits_itself : (l : Leaf) → FitsLeaf l (leaf_tree l)
fits_itself (leaf.Variable kind.Ty n) = refl
fits_itself (leaf.Variable kind.Int n) = refl
fits_itself (leaf.Variable kind.Float n) = refl
fits_itself (leaf.Variable kind.Const n) = refl
fits_itself (leaf.Variable kind.Region n) = (of_variable n, refl)
fits_itself (leaf.Region r) = (of_free r, refl)
fits_itself (leaf.TyConstant a) = (a, refl)
fits_itself (leaf.ConstConstant a) = (a, refl)

pub leaf_tree-inj : (l m : Leaf) → leaf_tree l ≡ leaf_tree m → l ≡ m
leaf_tree-inj l m e = cc e

pub itself : Instance
itself =
    record {
      value = leaf_tree;
      fits = fits_itself;
      formed = λ l. (tt, tt);
      closed = λ l. (tt, tt);
      distinct = λ l m h i e. leaf_tree-inj l m e;
      stays = λ r h. refl;
    }

pub instance_of-itself : (t : Tree) → IsFormed t → instance_of itself t ≡ t
unfolding itself
instance_of-itself t h = replace-leaf t h
