-- The leaves that stand for the positions of a query in its first table have the kinds of its input.
use Rattle.std.proofs.Common.{◌≡◌, ◌⊎◌, inl, inr, ℕ, zero, suc, ◌+◌, ◌<◌, List, [], ◌∷◌, ◌++◌, length, Some, None, refl, sym, ap, ◌∙◌, arith}
use Rattle.std.specs.Prelude.{slice_get}
use Rattle.nts_model.specs.declared.labels.Variance.{Variance}
use Rattle.nts_model.specs.Canonical.Inputs.{Input, HaveKinds, canonical_of, PositionKind, type_variable, integer_variable, float_variable, const_variable, region_variable, placeholder}
use Rattle.std.proofs.lemmas.Option.{slice_get_past}
use Rattle.std.proofs.lemmas.Bool.{cases_lt}
use Rattle.nts_unify.specs.Reading.{LinksDescend}
use Rattle.nts_canonical.specs.SubRoots.{sub_root_in}
use Rattle.nts_unify.specs.declared.contents.Variable.{Variable}
use Rattle.nts_unify.specs.declared.contents.State.TheVariants.{Link, Unset}
use Rattle.nts_canonical.specs.Kinds.{AreInputKinds, value_leaves, variables_before, count_of, kind_of_position, link_to, made_variables}
use Rattle.nts_canonical.specs.Building.{made_entries}
use Rattle.nts_canonical.proofs.Kinded.{have_kinds}
use Rattle.nts_meaning.specs.nts_canonicalizer.proofs.Handed.{form-kinds}
use Rattle.nts_meaning.specs.Telling.{queries}
use Rattle.nts_decisions.proofs.UnrefusedFacts.{HasLeavesEach}

-- how many of the positions are variables
all_before : List PositionKind → ℕ
all_before ks = variables_before ks (length ks)

before_push : (ks : List PositionKind) (k : PositionKind) → variables_before (ks ++ k ∷ []) (length (ks ++ k ∷ [])) ≡ variables_before ks (length ks) + count_of (kind_of_position k)
before_push [] k = omega arith
before_push (x ∷ ks) k = (let e = before_push ks k in omega (arith, e))

-- an earlier type variable is one of them
before_all : (ks : List PositionKind) (r u f : ℕ) → slice_get ks r ≡ Some (type_variable u f) → variables_before ks r < variables_before ks (length ks)
before_all [] r u f e = absurd (cc e)
before_all (k ∷ ks) zero u f e = (let one : count_of (kind_of_position k) ≡ 1 = ap (λ z. count_of (kind_of_position z)) (some_same k (type_variable u f) e) in omega (arith, one))
  where
    some_same : (a b : PositionKind) → Some a ≡ Some b → a ≡ b
    some_same a b e = cc e
before_all (k ∷ ks) (suc r) u f e = (let l = before_all ks r u f e in omega (arith, l))

get_first : (xs ys : List PositionKind) (i : ℕ) → i < length xs → slice_get (xs ++ ys) i ≡ slice_get xs i
get_first [] ys i l = absurd (omega (arith, l))
get_first (x ∷ xs) ys zero l = refl
get_first (x ∷ xs) ys (suc i) l = get_first xs ys i (omega (arith, l))

get_next : (xs ys : List PositionKind) (y : PositionKind) → slice_get (xs ++ y ∷ ys) (length xs) ≡ Some y
get_next [] ys y = refl
get_next (x ∷ xs) ys y = get_next xs ys y

again : (xs ys : List PositionKind) (y : PositionKind) → xs ++ y ∷ ys ≡ (xs ++ y ∷ []) ++ ys
again [] ys y = refl
again (x ∷ xs) ys y = ap (λ z. x ∷ z) (again xs ys y)

-- where a type variable leads
linked : (earlier : List PositionKind) (r m : ℕ) → slice_get earlier r ≡ Some (type_variable 0 r) ⊎ slice_get earlier r ≡ None → link_to earlier r ≡ Some m → m < variables_before earlier (length earlier)
linked earlier r m (inl e) h = (let l = before_all earlier r 0 r e in let is : variables_before earlier r ≡ m = cc (e, h) in omega (arith, l, is))
linked earlier r m (inr e) h = absurd (cc (e, h))

-- the links of sub-unification lead down
is_some : {A : Type 0} (x y : A) → Some x ≡ Some y → x ≡ y
is_some x y e = cc e

module _ (all : List PositionKind) (kinds : AreInputKinds all) where
  earlier_kind : (earlier ks : List PositionKind) (u r : ℕ) → all ≡ earlier ++ type_variable u r ∷ ks → (slice_get earlier r ≡ Some (type_variable 0 r)) ⊎ (slice_get earlier r ≡ None)
  earlier_kind earlier ks u r same =
      let here = kinds (length earlier) (type_variable u r) (ap (λ z. slice_get z (length earlier)) same ∙ get_next earlier ks (type_variable u r)) in
      elim (cases_lt r (length earlier)) [
        | inl l ↦ inl (sym (ap (λ z. slice_get z r) same ∙ get_first earlier (type_variable u r ∷ ks) r l) ∙ here.2)
        | inr l ↦ inr (slice_get_past earlier r l)
      ]

  sub_made : (earlier ks : List PositionKind) → all ≡ earlier ++ ks → (n m : ℕ) (v : Variable) → slice_get (made_variables earlier ks) n ≡ Some v → v.sub_link ≡ Some m → m < variables_before earlier (length earlier) + n
  sub_made earlier [] same n m v at h = absurd (cc at)
  sub_made earlier (placeholder s u a ∷ ks) same n m v at h =
      (let l = sub_made (earlier ++ placeholder s u a ∷ []) ks (same ∙ again earlier ks (placeholder s u a)) n m v at h in let e = before_push earlier (placeholder s u a) in omega (arith, l, e))
  sub_made earlier (type_variable u r ∷ ks) same zero m v at h =
      (let l = linked earlier r m (earlier_kind earlier ks u r same) (ap (λ (z : Variable). z.sub_link) (is_some _ v at) ∙ h) in omega (arith, l))
  sub_made earlier (type_variable u r ∷ ks) same (suc n) m v at h =
      (let l = sub_made (earlier ++ type_variable u r ∷ []) ks (same ∙ again earlier ks (type_variable u r)) n m v at h in let e = before_push earlier (type_variable u r) in omega (arith, l, e))
  sub_made earlier (integer_variable ∷ ks) same zero m v at h = absurd (let e : None ≡ Some m = ap (λ (z : Variable). z.sub_link) (is_some _ v at) ∙ h in cc e)
  sub_made earlier (integer_variable ∷ ks) same (suc n) m v at h =
      (let l = sub_made (earlier ++ integer_variable ∷ []) ks (same ∙ again earlier ks integer_variable) n m v at h in let e = before_push earlier integer_variable in omega (arith, l, e))
  sub_made earlier (float_variable ∷ ks) same zero m v at h = absurd (let e : None ≡ Some m = ap (λ (z : Variable). z.sub_link) (is_some _ v at) ∙ h in cc e)
  sub_made earlier (float_variable ∷ ks) same (suc n) m v at h =
      (let l = sub_made (earlier ++ float_variable ∷ []) ks (same ∙ again earlier ks float_variable) n m v at h in let e = before_push earlier float_variable in omega (arith, l, e))
  sub_made earlier (const_variable u ∷ ks) same zero m v at h = absurd (let e : None ≡ Some m = ap (λ (z : Variable). z.sub_link) (is_some _ v at) ∙ h in cc e)
  sub_made earlier (const_variable u ∷ ks) same (suc n) m v at h =
      (let l = sub_made (earlier ++ const_variable u ∷ []) ks (same ∙ again earlier ks (const_variable u)) n m v at h in let e = before_push earlier (const_variable u) in omega (arith, l, e))
  sub_made earlier (region_variable u ∷ ks) same zero m v at h = absurd (let e : None ≡ Some m = ap (λ (z : Variable). z.sub_link) (is_some _ v at) ∙ h in cc e)
  sub_made earlier (region_variable u ∷ ks) same (suc n) m v at h =
      (let l = sub_made (earlier ++ region_variable u ∷ []) ks (same ∙ again earlier ks (region_variable u)) n m v at h in let e = before_push earlier (region_variable u) in omega (arith, l, e))

-- no variable has a value
free : (earlier ks : List PositionKind) (n m : ℕ) (v : Variable) → slice_get (made_variables earlier ks) n ≡ Some v → v.state ≡ Link m → ⊥
free earlier [] n m v at h = cc at
free earlier (placeholder s u a ∷ ks) n m v at h = free (earlier ++ placeholder s u a ∷ []) ks n m v at h
free earlier (type_variable u r ∷ ks) zero m v at h = (let e : Unset ≡ Link m = ap (λ (z : Variable). z.state) (is_some _ v at) ∙ h in cc e)
free earlier (type_variable u r ∷ ks) (suc n) m v at h = free (earlier ++ type_variable u r ∷ []) ks n m v at h
free earlier (integer_variable ∷ ks) zero m v at h = (let e : Unset ≡ Link m = ap (λ (z : Variable). z.state) (is_some _ v at) ∙ h in cc e)
free earlier (integer_variable ∷ ks) (suc n) m v at h = free (earlier ++ integer_variable ∷ []) ks n m v at h
free earlier (float_variable ∷ ks) zero m v at h = (let e : Unset ≡ Link m = ap (λ (z : Variable). z.state) (is_some _ v at) ∙ h in cc e)
free earlier (float_variable ∷ ks) (suc n) m v at h = free (earlier ++ float_variable ∷ []) ks n m v at h
free earlier (const_variable u ∷ ks) zero m v at h = (let e : Unset ≡ Link m = ap (λ (z : Variable). z.state) (is_some _ v at) ∙ h in cc e)
free earlier (const_variable u ∷ ks) (suc n) m v at h = free (earlier ++ const_variable u ∷ []) ks n m v at h
free earlier (region_variable u ∷ ks) zero m v at h = (let e : Unset ≡ Link m = ap (λ (z : Variable). z.state) (is_some _ v at) ∙ h in cc e)
free earlier (region_variable u ∷ ks) (suc n) m v at h = free (earlier ++ region_variable u ∷ []) ks n m v at h

made_descends : (ks : List PositionKind) → AreInputKinds ks → LinksDescend (made_entries ks [])
made_descends ks kinds =
    record {
      links = λ n m v at h. absurd (free [] ks n m v at h);
      sub_links = λ n m v at h. (let l = sub_made ks kinds [] ks refl n m v at h in omega (arith, l));
    }

-- the leaves of a query's first table have its input's kinds
pub leaves_have_kinds : (i : Input) → HaveKinds (canonical_of i) (value_leaves 0 (canonical_of i).kinds) (sub_root_in (made_entries (canonical_of i).kinds []))
leaves_have_kinds i = (let ks = (canonical_of i).kinds in have_kinds (canonical_of i) (made_entries ks []) (made_descends ks (form-kinds i)) refl (form-kinds i))

pub leaves_each : (V : ℕ → List Variance) → HasLeavesEach (queries V)
leaves_each V = record { leaves = value_leaves 0; roots = λ ks. sub_root_in (made_entries ks []); values = λ ks. refl; have = λ i p. leaves_have_kinds i }
