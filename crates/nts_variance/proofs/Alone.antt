-- Consts and numbers, and what stands for them under a table.
use Rattle.std.proofs.Common.{◌≡◌, ◌⊎◌, inl, inr, ⊎_elim, ℕ, Bool, true, Option, Some, None, refl, sym, ap, ◌∙◌}
use Rattle.nts_model.specs.declared.labels.Sort.TheVariants as sort
use Rattle.nts_model.specs.declared.labels.VariableKind.{VariableKind}
use Rattle.nts_model.specs.declared.labels.VariableKind.TheVariants as kind
use Rattle.nts_model.specs.declared.labels.TyHead.TheVariants as ty
use Rattle.nts_model.specs.declared.labels.Leaf.TheVariants as leaf
use Rattle.nts_model.specs.declared.labels.Label.{Label}
use Rattle.nts_model.specs.declared.labels.Label.TheVariants as label
use Rattle.nts_model.specs.Terms.Trees.{Tree, empty, more, node, kind_of, of_sort, label_of, variable_of, infer_of, shape, Meets, IsFormed}
use Rattle.nts_model.specs.Terms.Fitting.{is_integer, is_float, HasLabel}
use Rattle.nts_model.specs.Terms.Regions.{IsRegion}
use Rattle.nts_model.specs.Tables.Contents.{Content}
use Rattle.nts_model.specs.Tables.Resolving.{rooted_variable, deeply_resolved, Knows, IsInfer, IsSound, AllUnset}
use Rattle.nts_model.specs.Tables.Alike.{Alike, one_tree, two_regions, one_label, two_rows, AreAlike}
use Rattle.nts_model.proofs.Tables.Kept.{variable_label, kind_of-deeply_resolved}
use Rattle.nts_model.proofs.Tables.Resolved.{deeply_resolved-node, deeply_resolved-empty}
use Rattle.nts_model.proofs.Tables.TableInstances.{deeply_resolved-more}
use Rattle.nts_model.proofs.Terms.Substituting.{no_children}
use Rattle.nts_variance.specs.Parts.{IsAlone}
use Rattle.nts_variance.specs.Due.{IsNoType}

-- a test that no region passes
record PassesNumbers (p : Label → Bool) : Type 0 where
  variable : (n : ℕ) → p (label.Leaf (leaf.Variable kind.Region n)) ≡ true → ⊥
  region : (l : Label) (c : Tree) → p l ≡ true → IsRegion (node l c) → ⊥

integer_region : (l : Label) (c : Tree) → is_integer l ≡ true → IsRegion (node l c) → ⊥
integer_region (label.Ty (ty.Int i)) empty e r = (let q = r.1 in cc)
integer_region (label.Ty (ty.Int i)) (more a b) e r = (let q = r.1 in cc)
integer_region (label.Ty (ty.Int i)) (node m d) e r = (let q = r.1 in cc)
integer_region (label.Ty (ty.Uint i)) empty e r = (let q = r.1 in cc)
integer_region (label.Ty (ty.Uint i)) (more a b) e r = (let q = r.1 in cc)
integer_region (label.Ty (ty.Uint i)) (node m d) e r = (let q = r.1 in cc)
integer_region (label.Leaf (leaf.Variable kind.Int n)) empty e r = (let q = r.1 in cc)
integer_region (label.Leaf (leaf.Variable kind.Int n)) (more a b) e r = (let q = r.1 in cc)
integer_region (label.Leaf (leaf.Variable kind.Int n)) (node m d) e r = (let q = r.1 in cc)
integer_region l c e r = cc

float_region : (l : Label) (c : Tree) → is_float l ≡ true → IsRegion (node l c) → ⊥
float_region (label.Ty (ty.Float i)) empty e r = (let q = r.1 in cc)
float_region (label.Ty (ty.Float i)) (more a b) e r = (let q = r.1 in cc)
float_region (label.Ty (ty.Float i)) (node m d) e r = (let q = r.1 in cc)
float_region (label.Leaf (leaf.Variable kind.Float n)) empty e r = (let q = r.1 in cc)
float_region (label.Leaf (leaf.Variable kind.Float n)) (more a b) e r = (let q = r.1 in cc)
float_region (label.Leaf (leaf.Variable kind.Float n)) (node m d) e r = (let q = r.1 in cc)
float_region l c e r = cc

integers : PassesNumbers is_integer
integers = record { variable = λ n e. cc; region = integer_region }

floats : PassesNumbers is_float
floats = record { variable = λ n e. cc; region = float_region }

module _ (p : Label → Bool) (numbers : PassesNumbers p) where
  -- the label under the table's roots
  label_rooted : (c : Content) (l : Label) → (p (rooted_variable c (variable_of l) l) ≡ true → p l ≡ true) × (p l ≡ true → p (rooted_variable c (variable_of l) l) ≡ true)
  label_rooted c l = by_case (variable_of l) refl
    where
      by_kind : (k : VariableKind) (n : ℕ) → variable_of l ≡ Some (k, n) → (p (rooted_variable c (Some (k, n)) l) ≡ true → p l ≡ true) × (p l ≡ true → p (rooted_variable c (Some (k, n)) l) ≡ true)
      by_kind kind.Ty n e = ((λ h. h), (λ h. h))
      by_kind kind.Int n e = ((λ h. h), (λ h. h))
      by_kind kind.Float n e = ((λ h. h), (λ h. h))
      by_kind kind.Const n e = ((λ h. h), (λ h. h))
      by_kind kind.Region n e = ((λ h. absurd (numbers.variable _ h)), (λ h. absurd (numbers.variable n (ap p (sym (variable_label l kind.Region n e)) ∙ h))))

      by_case : (o : Option (VariableKind × ℕ)) → variable_of l ≡ o → (p (rooted_variable c (variable_of l) l) ≡ true → p l ≡ true) × (p l ≡ true → p (rooted_variable c (variable_of l) l) ≡ true)
      by_case None e = rw e ((λ h. h), (λ h. h))
      by_case (Some v) e = rw e (by_kind v.0 v.1 e)

  not_infer : (l : Label) (x : Tree) → (IsInfer (node l x) → ⊥) → infer_of l ≡ None
  not_infer l x never = by_case (infer_of l) refl
    where
      by_case : (o : Option ℕ) → infer_of l ≡ o → infer_of l ≡ None
      by_case None e = e
      by_case (Some n) e = absurd (never (n, e))

  label_deeply : (c : Content) (t : Tree) → (IsInfer t → ⊥) → (HasLabel p (label_of (deeply_resolved c t)) → HasLabel p (label_of t)) × (HasLabel p (label_of t) → HasLabel p (label_of (deeply_resolved c t)))
  label_deeply c empty never = rw (deeply_resolved-empty c) ((λ h. h), (λ h. h))
  label_deeply c (more a b) never = rw (deeply_resolved-more c a b) ((λ h. h), (λ h. h))
  label_deeply c (node l x) never = rw (deeply_resolved-node c l x (not_infer l x never)) (label_rooted c l)

  label_alike : {R : Tree → Tree → Type 0} {a b : Tree} → Alike R a b → HasLabel p (label_of a) → HasLabel p (label_of b)
  label_alike one_tree h = h
  label_alike (two_regions {a = a} {b = b} i j r) h = absurd (region_label a i h)
    where
      region_label : (t : Tree) → IsRegion t → HasLabel p (label_of t) → ⊥
      region_label empty i h = h
      region_label (more x y) i h = h
      region_label (node l c) i h = numbers.region l c h i
  label_alike (one_label e x) h = h
  label_alike (two_rows x y) h = absurd h

  number_alike : (d : Content) (r t : Tree) → (IsInfer r → ⊥) → (IsInfer t → ⊥) → AreAlike d r t → HasLabel p (label_of r) → HasLabel p (label_of t)
  number_alike d r t nr nt alike h = (label_deeply d t nt).0 (label_alike alike ((label_deeply d r nr).1 h))

-- where one of two alike trees, neither a variable, is a const or a number, the other is
pub alone_alike : (d : Content) (r t : Tree) → (IsInfer r → ⊥) → (IsInfer t → ⊥) → kind_of r ≡ kind_of t → AreAlike d r t → IsAlone r → IsAlone t
alone_alike d r t nr nt kinds alike h =
    ⊎_elim (λ e. inl (sym kinds ∙ e)) (λ m. inr (⊎_elim (λ i. inl (number_alike is_integer integers d r t nr nt alike i)) (λ f. inr (number_alike is_float floats d r t nr nt alike f)) m)) h

-- .. a tree that is no variable is one where it stands for one
pub alone_back : (c : Content) (t : Tree) → IsSound c → Knows c t → (IsInfer t → ⊥) → IsAlone (deeply_resolved c t) → IsAlone t
alone_back c t sound knows never h =
    ⊎_elim (λ e. inl (sym (kind_of-deeply_resolved c t sound knows) ∙ e)) (λ m. inr (⊎_elim (λ i. inl ((label_deeply is_integer integers c t never).0 i)) (λ f. inr ((label_deeply is_float floats c t never).0 f)) m)) h

-- no variable stands in a const or a number but in a const's parts
integer_unset : (c : Content) (l : Label) (x : Tree) → is_integer l ≡ true → Meets (shape l) x → (IsInfer (node l x) → ⊥) → AllUnset c (node l x)
integer_unset c (label.Ty (ty.Int i)) x e m never = rw (no_children x m) tt
integer_unset c (label.Ty (ty.Uint i)) x e m never = rw (no_children x m) tt
integer_unset c (label.Leaf (leaf.Variable kind.Int n)) x e m never = absurd (never (n, refl))
integer_unset c l x e m never = cc

float_unset : (c : Content) (l : Label) (x : Tree) → is_float l ≡ true → Meets (shape l) x → (IsInfer (node l x) → ⊥) → AllUnset c (node l x)
float_unset c (label.Ty (ty.Float i)) x e m never = rw (no_children x m) tt
float_unset c (label.Leaf (leaf.Variable kind.Float n)) x e m never = absurd (never (n, refl))
float_unset c l x e m never = cc

number_unset : (c : Content) (t : Tree) → IsFormed t → (IsInfer t → ⊥) → HasLabel is_integer (label_of t) ⊎ HasLabel is_float (label_of t) → AllUnset c t
number_unset c empty f never h = absurd (⊎_elim (λ x. x) (λ x. x) h)
number_unset c (more a b) f never h = absurd (⊎_elim (λ x. x) (λ x. x) h)
number_unset c (node l x) f never h = ⊎_elim (λ i. integer_unset c l x i f.0 never) (λ i. float_unset c l x i f.0 never) h

pub alone_unset : (c : Content) (t : Tree) → IsFormed t → (IsInfer t → ⊥) → IsAlone t → IsNoType t ⊎ AllUnset c t
alone_unset c t f never h = ⊎_elim (λ e. inl (λ z. (let both : Some (of_sort sort.Const) ≡ Some (of_sort sort.Ty) = sym e ∙ z in cc))) (λ m. inr (number_unset c t f never m)) h
