-- Kinds of positions tell the sorts of leaves, and which type variables share a sub root.
use Rattle.std.proofs.Common.{◌≡◌, ℕ, suc, ◌+◌, Bool, true, false, List, [], ◌∷◌, map, get_or, Option, Some, None, inl, inr, refl, sym, ap, ◌∙◌, arith, eqb-true, eq-eqb}
use Rattle.std.specs.List.{position_or_len}
use Rattle.nts_model.specs.declared.labels.Sort.{Sort}
use Rattle.nts_model.specs.declared.labels.Sort.TheVariants as sort
use Rattle.nts_model.specs.declared.labels.VariableKind.TheVariants as kind
use Rattle.nts_model.specs.declared.labels.Leaf.{Leaf}
use Rattle.nts_model.specs.declared.labels.Leaf.TheVariants as leaf
use Rattle.nts_model.specs.Terms.Substitutions.{LeafSort, of_variable, of_constant, leaf_sort}
use Rattle.nts_model.specs.Lists.{Among}
use Rattle.nts_model.specs.Canonical.Numbered.{number}
use Rattle.nts_model.specs.Canonical.Inputs.{PositionKind, type_variable, integer_variable, float_variable, const_variable, region_variable, placeholder, sub_root_of, are_one, share, position_kind_at, position_kind}
use Rattle.nts_model.proofs.Terms.Listed.{either, map-equal, map-tells, map-map, among-map, place-map, place-equal, number-map}
use Rattle.nts_model.proofs.Canonical.Moving.{IsMap}

-- the leaves of the list share sub roots as their images do
pub record KeepsShares (f : Leaf → Leaf) (s : List Leaf) (r q : ℕ → ℕ) : Type 0 where
  pub kept : (l m : Leaf) → Among s l → Among s m → share r l m ≡ share q (f l) (f m)

abbrev first : (ℕ → ℕ) → List Leaf → Leaf → ℕ
first r s l = position_or_len (share r l) s

-- the sort of the leaf that a position stands for
abbrev sort_of_placeholder : Sort → LeafSort
sort_of_placeholder sort.Ty = of_constant sort.Ty
sort_of_placeholder sort.Region = of_variable kind.Region
sort_of_placeholder sort.Const = of_constant sort.Const

abbrev sort_of_kind : PositionKind → LeafSort
sort_of_kind (type_variable u f) = of_variable kind.Ty
sort_of_kind integer_variable = of_variable kind.Int
sort_of_kind float_variable = of_variable kind.Float
sort_of_kind (const_variable u) = of_variable kind.Const
sort_of_kind (region_variable u) = of_variable kind.Region
sort_of_kind (placeholder s u n) = sort_of_placeholder s

sort_of_kind-at : (l : Leaf) (f n : ℕ) → sort_of_kind (position_kind_at (leaf_sort l) f n) ≡ leaf_sort l
sort_of_kind-at (leaf.Variable kind.Ty i) f n = refl
sort_of_kind-at (leaf.Variable kind.Int i) f n = refl
sort_of_kind-at (leaf.Variable kind.Float i) f n = refl
sort_of_kind-at (leaf.Variable kind.Const i) f n = refl
sort_of_kind-at (leaf.Variable kind.Region i) f n = refl
sort_of_kind-at (leaf.Region x) f n = refl
sort_of_kind-at (leaf.TyConstant c) f n = refl
sort_of_kind-at (leaf.ConstConstant c) f n = refl

sorts_of_kinds : (r : ℕ → ℕ) (u s : List Leaf) → map sort_of_kind (map (position_kind r u) s) ≡ map leaf_sort s
sorts_of_kinds r u s = map-map sort_of_kind (position_kind r u) s ∙ map-equal _ leaf_sort s (λ l i. sort_of_kind-at l (first r u l) (number u l))

pub same_sorts : (r q : ℕ → ℕ) (s u : List Leaf) → map (position_kind r s) s ≡ map (position_kind q u) u → map leaf_sort s ≡ map leaf_sort u
same_sorts r q s u e = sym (sorts_of_kinds r s s) ∙ ap (map sort_of_kind) e ∙ sorts_of_kinds q u u

-- a map that keeps the partition keeps the kinds
kind-moved : (f : Leaf → Leaf) → IsMap f → (s : List Leaf) (r q : ℕ → ℕ) → KeepsShares f s r q → (l : Leaf) → Among s l → position_kind q (map f s) (f l) ≡ position_kind r s l
kind-moved f j s r q k l i =
    let firsts : first q (map f s) (f l) ≡ first r s l = place-map f (share q (f l)) s ∙ place-equal _ _ s (λ m h. sym (k.kept l m i h)) in
    rw (j.keeps_sorts l, number-map f j.injective s l, firsts) refl

pub kinds-moved : (f : Leaf → Leaf) → IsMap f → (s : List Leaf) (r q : ℕ → ℕ) → KeepsShares f s r q → map (position_kind q (map f s)) (map f s) ≡ map (position_kind r s) s
kinds-moved f j s r q k = map-map (position_kind q (map f s)) f s ∙ map-equal _ _ s (λ l i. kind-moved f j s r q k l i)

-- sharing a sub root
are_one-true : (n m : Option ℕ) → are_one n m ≡ true → n ≡ m
are_one-true (Some n) (Some m) e = ap Some (eqb-true n m e)
are_one-true (Some n) None e = cc
are_one-true None (Some m) e = cc
are_one-true None None e = cc

abbrev pub is_type_sort : LeafSort → Bool
is_type_sort (of_variable kind.Ty) = true
is_type_sort o = false

abbrev pub is_type : Leaf → Bool
is_type l = is_type_sort (leaf_sort l)

pub share-self : (r : ℕ → ℕ) (l : Leaf) → is_type l ≡ true → share r l l ≡ true
share-self r (leaf.Variable kind.Ty n) e = eq-eqb (r n) (r n) refl
share-self r (leaf.Variable kind.Int n) e = cc
share-self r (leaf.Variable kind.Float n) e = cc
share-self r (leaf.Variable kind.Const n) e = cc
share-self r (leaf.Variable kind.Region n) e = cc
share-self r (leaf.Region x) e = cc
share-self r (leaf.TyConstant c) e = cc
share-self r (leaf.ConstConstant c) e = cc

no_root : (r : ℕ → ℕ) (l : Leaf) → is_type l ≡ false → sub_root_of r l ≡ None
no_root r (leaf.Variable kind.Ty n) e = cc
no_root r (leaf.Variable kind.Int n) e = refl
no_root r (leaf.Variable kind.Float n) e = refl
no_root r (leaf.Variable kind.Const n) e = refl
no_root r (leaf.Variable kind.Region n) e = refl
no_root r (leaf.Region x) e = refl
no_root r (leaf.TyConstant c) e = refl
no_root r (leaf.ConstConstant c) e = refl

are_one-none : (n : Option ℕ) → are_one n None ≡ false
are_one-none None = refl
are_one-none (Some n) = refl

share-not_left : (r : ℕ → ℕ) (l m : Leaf) → is_type l ≡ false → share r l m ≡ false
share-not_left r l m e = rw (no_root r l e) refl

share-not_right : (r : ℕ → ℕ) (l m : Leaf) → is_type m ≡ false → share r l m ≡ false
share-not_right r l m e = rw (no_root r m e) (are_one-none (sub_root_of r l))

-- two type variables share a sub root exactly if its first number is one
leaf_at-next : (x : Leaf) (xs : List Leaf) (n : ℕ) (d : Leaf) → get_or (x ∷ xs) (1 + n) d ≡ get_or xs n d
leaf_at-next x xs n d = let e : 1 + n ≡ suc n = omega arith in rw e refl

place-passes : (p : Leaf → Bool) (s : List Leaf) (m d : Leaf) → Among s m → p m ≡ true → p (get_or s (position_or_len p s) d) ≡ true
place-passes p [] m d h e = elim h [ ]
place-passes p (x ∷ xs) m d h e =
    elim (either (p x)) [
      | inl f ↦ rw f f
      | inr f ↦ rw f (rw (leaf_at-next x xs (position_or_len p xs) d) (place-passes p xs m d (elim h [ inl q ↦ absurd (let g = ap p q in cc) | inr q ↦ q ]) e))
    ]

first-equal : (r : ℕ → ℕ) (s : List Leaf) (l m : Leaf) → share r l m ≡ true → first r s l ≡ first r s m
first-equal r s l m e = ap (λ o. position_or_len (λ x. are_one o (sub_root_of r x)) s) (are_one-true (sub_root_of r l) (sub_root_of r m) e)

first-tells : (r : ℕ → ℕ) (s : List Leaf) (l m : Leaf) → Among s l → Among s m → is_type l ≡ true → is_type m ≡ true → first r s l ≡ first r s m → share r l m ≡ true
first-tells r s l m i h d e p =
    let a = are_one-true (sub_root_of r l) _ (place-passes (share r l) s l l i (share-self r l d)) in
    let b = are_one-true (sub_root_of r m) _ (place-passes (share r m) s m l h (share-self r m e)) in
    let c : sub_root_of r l ≡ sub_root_of r m = a ∙ ap (λ n. sub_root_of r (get_or s n l)) p ∙ sym b in
    ap (λ o. are_one o (sub_root_of r m)) c ∙ share-self r m e

same_test : (b c : Bool) → (b ≡ true → c ≡ true) → (c ≡ true → b ≡ true) → b ≡ c
same_test true true f g = refl
same_test true false f g = sym (f refl)
same_test false true f g = g refl
same_test false false f g = refl

first_of : (o : LeafSort) (f g n m : ℕ) → is_type_sort o ≡ true → position_kind_at o f n ≡ position_kind_at o g m → f ≡ g
first_of (of_variable kind.Ty) f g n m e h = cc
first_of (of_variable kind.Int) f g n m e h = cc
first_of (of_variable kind.Float) f g n m e h = cc
first_of (of_variable kind.Const) f g n m e h = cc
first_of (of_variable kind.Region) f g n m e h = cc
first_of (of_constant s) f g n m e h = cc

is_type-kept : (f : Leaf → Leaf) → IsMap f → (l : Leaf) → is_type (f l) ≡ is_type l
is_type-kept f j l = ap is_type_sort (j.keeps_sorts l)

-- a map that keeps the kinds keeps the partition
pub partition-kept : (f : Leaf → Leaf) → IsMap f → (s : List Leaf) (r q : ℕ → ℕ) → map (position_kind q (map f s)) (map f s) ≡ map (position_kind r s) s → KeepsShares f s r q
partition-kept f j s r q e =
    let kinds : (l : Leaf) → Among s l → position_kind q (map f s) (f l) ≡ position_kind r s l = λ l i. map-tells _ _ s (sym (map-map (position_kind q (map f s)) f s) ∙ e) l i in
    let firsts : (l : Leaf) → Among s l → is_type l ≡ true → first q (map f s) (f l) ≡ first r s l =
    λ l i t. first_of (leaf_sort l) _ _ (number (map f s) (f l)) (number s l) t (ap (λ o. position_kind_at o (first q (map f s) (f l)) (number (map f s) (f l))) (sym (j.keeps_sorts l)) ∙ kinds l i) in
    record {
      kept = λ l m i h. elim (either (is_type l)) [
        | inr d ↦ share-not_left r l m d ∙ sym (share-not_left q (f l) (f m) (is_type-kept f j l ∙ d))
        | inl t ↦ elim (either (is_type m)) [
          | inr d ↦ share-not_right r l m d ∙ sym (share-not_right q (f l) (f m) (is_type-kept f j m ∙ d))
          | inl u ↦ same_test (share r l m) (share q (f l) (f m))
              (λ p. first-tells q (map f s) (f l) (f m) (among-map f s l i) (among-map f s m h) (is_type-kept f j l ∙ t) (is_type-kept f j m ∙ u)
              (firsts l i t ∙ first-equal r s l m p ∙ sym (firsts m h u)))
              (λ p. first-tells r s l m i h t u (sym (firsts l i t) ∙ first-equal q (map f s) (f l) (f m) p ∙ firsts m h u))
        ]
      ];
    }
