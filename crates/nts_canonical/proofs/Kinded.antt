-- A table that is made for kinds has leaves of these kinds.
use Rattle.std.proofs.Common.{◌≡◌, ⊎_elim, ℕ, suc, ◌+◌, ◌<◌, ◌≤◌, ◌==◌, false, List, [], ◌∷◌, map, length, take, get_or, Option, Some, inl, inr, refl, sym, ap, ◌∙◌, arith, eqb-true}
use Rattle.std.specs.Prelude.{slice_get}
use Rattle.std.specs.List.{position_or_len}
use Rattle.std.proofs.lemmas.Option.{slice_get-get_or, slice_get_within}
use Rattle.std.proofs.lemmas.List.{length-map}
use Rattle.std.proofs.lemmas.List.Sums.{position_or_len_is}
use Rattle.nts_model.specs.declared.labels.Sort.TheVariants as sort
use Rattle.nts_model.specs.declared.labels.VariableKind.TheVariants as kind
use Rattle.nts_model.specs.declared.labels.FreeRegion.TheVariants as region
use Rattle.nts_model.specs.declared.labels.Constant.TheVariants as constant
use Rattle.nts_model.specs.declared.labels.Leaf.{Leaf}
use Rattle.nts_model.specs.declared.labels.Leaf.TheVariants as leaf
use Rattle.nts_model.specs.Lists.{Among}
use Rattle.nts_model.specs.Canonical.Numbered.{number, AreDistinct}
use Rattle.nts_model.specs.Canonical.Inputs.{PositionKind, type_variable, integer_variable, float_variable, const_variable, region_variable, placeholder, share, position_kind, is_static, CanonicalInput as Form, HaveKinds}
use Rattle.nts_model.proofs.Terms.Listed.{either}
use Rattle.nts_model.proofs.Tables.Under.{same_or_other, eq-self}
use Rattle.nts_unify.specs.declared.contents.Variable.{Variable}
use Rattle.nts_unify.specs.Entries.{Entries}
use Rattle.nts_table.specs.Making.{unset_variable}
use Rattle.nts_unify.specs.Reading.{LinksDescend}
use Rattle.nts_unify.specs.Roots.{here, on, IsSubRoot}
use Rattle.nts_unify.proofs.Changes.{slice_get-map}
use Rattle.nts_canonical.specs.SubRoots.{sub_root_in}
use Rattle.nts_canonical.specs.Kinds.{IsInputKind, AreInputKinds, kind_of_position, count_of, variables_before, link_to, value_leaf, value_leaves, made_variables}
use Rattle.nts_model.specs.Answers.Responses.{universe_of_kind}
use Rattle.nts_canonical.proofs.SubRooted.{sub_root_is}
use Rattle.nts_canonical.proofs.VarLists.{number-at}
use Rattle.nts_canonical.proofs.Making.{some, value-at, length-values, made-at, link-self, link-earlier, before-later, before-type}

-- the variable of a type variable's position
pub type-made : (ks : List PositionKind) (i u r : ℕ) → slice_get ks i ≡ Some (type_variable u r) → slice_get (made_variables [] ks) (variables_before ks i) ≡ Some (record (unset_variable kind.Ty u) { sub_link = link_to (take i ks) r })
type-made ks i u r h = (made-at [] ks i (type_variable u r) h).at

one_link : (v w : Variable) (o : Option Variable) → o ≡ Some v → o ≡ Some w → w.sub_link ≡ v.sub_link
one_link v w o p q = ap (λ (x : Variable). x.sub_link) (some (sym q ∙ p))

first-root : (e : Entries) (ks : List PositionKind) (r : ℕ) → e.variables ≡ made_variables [] ks → slice_get ks r ≡ Some (type_variable 0 r) → IsSubRoot e (variables_before ks r) (variables_before ks r)
first-root e ks r m h =
    let n = variables_before ks r in
    let at = ap (λ vs. slice_get vs n) m ∙ type-made ks r 0 r h in
    record {
      within = slice_get_within e.variables n _ at;
      leads = here;
      ends = λ v q. one_link _ v (slice_get e.variables n) at q ∙ link-self ks r;
    }

-- the first type variable of a sub root is its own root
pub root-first : (e : Entries) (ks : List PositionKind) (r : ℕ) → LinksDescend e → e.variables ≡ made_variables [] ks → slice_get ks r ≡ Some (type_variable 0 r) → sub_root_in e (variables_before ks r) ≡ variables_before ks r
root-first e ks r d m h = sym (sub_root_is e d (variables_before ks r) (variables_before ks r) (first-root e ks r m h))

-- .. and that of the others
pub root-at : (e : Entries) (ks : List PositionKind) (i u r : ℕ) → LinksDescend e → e.variables ≡ made_variables [] ks → slice_get ks i ≡ Some (type_variable u r) → r ≤ i → slice_get ks r ≡ Some (type_variable 0 r) → sub_root_in e (variables_before ks i) ≡ variables_before ks r
root-at e ks i u r d m h l first = ⊎_elim
    (λ (s : r ≡ i). ap (λ j. sub_root_in e (variables_before ks j)) (sym s) ∙ root-first e ks r d m first)
    (λ (o : r ≡ i → ⊥). let n = variables_before ks i in
    let at = ap (λ vs. slice_get vs n) m ∙ type-made ks i u r h in
    let root = first-root e ks r m first in
    sym (sub_root_is e d n (variables_before ks r) (record { within = root.within; leads = on _ here at (link-earlier ks i r (type_variable 0 r) (omega (arith, l, o)) first); ends = root.ends })))
    (same_or_other r i)

-- a value from the position i on, where the variables are those from n on
IsFrom : ℕ → ℕ → Leaf → Type 0
IsFrom i n (leaf.Variable k m) = n ≤ m
IsFrom i n (leaf.Region (region.Placeholder u a)) = i ≤ a
IsFrom i n (leaf.Region r) = ⊥
IsFrom i n (leaf.TyConstant (constant.Placeholder u a)) = i ≤ a
IsFrom i n (leaf.TyConstant a) = ⊥
IsFrom i n (leaf.ConstConstant (constant.Placeholder u a)) = i ≤ a
IsFrom i n (leaf.ConstConstant a) = ⊥

-- the kinds from the position i on
KindsFrom : List PositionKind → ℕ → List PositionKind → Type 0
KindsFrom all i ks = (j : ℕ) (k : PositionKind) → slice_get ks j ≡ Some k → IsInputKind all (i + j) k

kinds-head : (all : List PositionKind) (i : ℕ) (k : PositionKind) (ks : List PositionKind) → KindsFrom all i (k ∷ ks) → IsInputKind all i k
unfolding KindsFrom
kinds-head all i k ks q = let here : i + 0 ≡ i = omega arith in rw here at (q 0 k refl)

kinds-tail : (all : List PositionKind) (i : ℕ) (k : PositionKind) (ks : List PositionKind) → KindsFrom all i (k ∷ ks) → KindsFrom all (i + 1) ks
unfolding KindsFrom
kinds-tail all i k ks q = λ j x e. (let next : i + suc j ≡ (i + 1) + j = omega arith in rw next at (q (suc j) x e))

from-value : (all : List PositionKind) (i n : ℕ) (k : PositionKind) → IsInputKind all i k → IsFrom i n (value_leaf k (universe_of_kind k) n)
unfolding IsFrom
from-value all i n (type_variable u r) h = omega arith
from-value all i n integer_variable h = omega arith
from-value all i n float_variable h = omega arith
from-value all i n (const_variable u) h = omega arith
from-value all i n (region_variable u) h = omega arith
from-value all i n (placeholder sort.Ty u a) h = let q = h.1 in omega (arith, q)
from-value all i n (placeholder sort.Region u a) h = let q = h.1 in omega (arith, q)
from-value all i n (placeholder sort.Const u a) h = let q = h.1 in omega (arith, q)

not-from : (all : List PositionKind) (i n : ℕ) (k : PositionKind) → IsInputKind all i k → IsFrom (i + 1) (n + count_of (kind_of_position k)) (value_leaf k (universe_of_kind k) n) → ⊥
unfolding IsFrom
not-from all i n (type_variable u r) h f = omega (arith, f)
not-from all i n integer_variable h f = omega (arith, f)
not-from all i n float_variable h f = omega (arith, f)
not-from all i n (const_variable u) h f = omega (arith, f)
not-from all i n (region_variable u) h f = omega (arith, f)
not-from all i n (placeholder sort.Ty u a) h f = let q = h.1 in omega (arith, q, f)
not-from all i n (placeholder sort.Region u a) h f = let q = h.1 in omega (arith, q, f)
not-from all i n (placeholder sort.Const u a) h f = let q = h.1 in omega (arith, q, f)

from-later : (l : Leaf) (i j n m : ℕ) → i ≤ j → n ≤ m → IsFrom j m l → IsFrom i n l
unfolding IsFrom
from-later (leaf.Variable k a) i j n m p q f = omega (arith, q, f)
from-later (leaf.Region region.Static) i j n m p q f = f
from-later (leaf.Region (region.EarlyParam a)) i j n m p q f = f
from-later (leaf.Region (region.LateParam a)) i j n m p q f = f
from-later (leaf.Region (region.Placeholder u a)) i j n m p q f = omega (arith, p, f)
from-later (leaf.Region region.Erased) i j n m p q f = f
from-later (leaf.Region region.Error) i j n m p q f = f
from-later (leaf.TyConstant (constant.Param a)) i j n m p q f = f
from-later (leaf.TyConstant (constant.Placeholder u a)) i j n m p q f = omega (arith, p, f)
from-later (leaf.ConstConstant (constant.Param a)) i j n m p q f = f
from-later (leaf.ConstConstant (constant.Placeholder u a)) i j n m p q f = omega (arith, p, f)

all-from : (all : List PositionKind) (i n : ℕ) (ks : List PositionKind) → KindsFrom all i ks → (l : Leaf) → Among (value_leaves n ks) l → IsFrom i n l
all-from all i n [] q l h = elim h [ ]
all-from all i n (k ∷ ks) q l h =
    elim h [
      | inl p ↦ rw p (from-value all i n k (kinds-head all i k ks q))
      | inr m ↦ from-later l i (i + 1) n (n + count_of (kind_of_position k)) (omega arith) (omega arith) (all-from all (i + 1) (n + count_of (kind_of_position k)) ks (kinds-tail all i k ks q) l m)
    ]

distinct-from : (all : List PositionKind) (i n : ℕ) (ks : List PositionKind) → KindsFrom all i ks → AreDistinct (value_leaves n ks)
distinct-from all i n [] q = tt
distinct-from all i n (k ∷ ks) q =
    let m = n + count_of (kind_of_position k) in
    let tail = kinds-tail all i k ks q in (
      (λ h. not-from all i n k (kinds-head all i k ks q) (all-from all (i + 1) m ks tail (value_leaf k (universe_of_kind k) n) h)),
      distinct-from all (i + 1) m ks tail,
    )

no-static : (l : Leaf) (i n : ℕ) → IsFrom i n l → is_static l ≡ false
unfolding IsFrom
no-static (leaf.Variable k a) i n f = refl
no-static (leaf.Region region.Static) i n f = absurd f
no-static (leaf.Region (region.EarlyParam a)) i n f = refl
no-static (leaf.Region (region.LateParam a)) i n f = refl
no-static (leaf.Region (region.Placeholder u a)) i n f = refl
no-static (leaf.Region region.Erased) i n f = refl
no-static (leaf.Region region.Error) i n f = refl
no-static (leaf.TyConstant a) i n f = refl
no-static (leaf.ConstConstant a) i n f = refl

from-start : (ks : List PositionKind) → AreInputKinds ks → KindsFrom ks 0 ks
unfolding KindsFrom
from-start ks q = λ j k e. (let here : 0 + j ≡ j = omega arith in rw here (q j k e))

at-get : {A : Type 0} (xs : List A) (i : ℕ) (x d : A) → slice_get xs i ≡ Some x → get_or xs i d ≡ x
at-get xs i x d h = some (sym (slice_get-get_or xs i d (slice_get_within xs i x h)) ∙ h)

same_lists : {A : Type 0} (xs ys : List A) → length xs ≡ length ys → ((i : ℕ) (y : A) → slice_get ys i ≡ Some y → slice_get xs i ≡ Some y) → xs ≡ ys
same_lists [] [] l h = refl
same_lists [] (y ∷ ys) l h = absurd (omega (arith, l))
same_lists (x ∷ xs) [] l h = absurd (omega (arith, l))
same_lists (x ∷ xs) (y ∷ ys) l h =
    let first : x ≡ y = some (h 0 y refl) in
    let rest = same_lists xs ys (omega (arith, l)) (λ i z e. h (suc i) z e) in
    λ j. first j ∷ rest j

numbers-differ : (n m : ℕ) → n < m → (m == n) ≡ false
numbers-differ n m l = elim (either (m == n)) [ inl e ↦ absurd (let q = eqb-true m n e in omega (arith, q, l)) | inr e ↦ e ]

-- what is known of the table that is made
record IsMadeFor (e : Entries) (ks : List PositionKind) : Type 0 where
  descends : LinksDescend e
  made : e.variables ≡ made_variables [] ks
  kinds : AreInputKinds ks

module _ (e : Entries) (ks : List PositionKind) (h : IsMadeFor e ks) where
  s : List Leaf
  s = value_leaves 0 ks

  at-place : (i : ℕ) (k : PositionKind) (d : Leaf) → slice_get ks i ≡ Some k → get_or s i d ≡ value_leaf k (universe_of_kind k) (variables_before ks i)
  unfolding s
  at-place i k d q = at-get s i _ d (value-at 0 ks i k q ∙ (let none : 0 + variables_before ks i ≡ variables_before ks i = omega arith in rw none refl))

  within : (i : ℕ) (k : PositionKind) → slice_get ks i ≡ Some k → i < length s
  unfolding s
  within i k q = let l = slice_get_within ks i k q in let n = length-values 0 ks in omega (arith, l, n)

  numbered-at : (i : ℕ) (k : PositionKind) → slice_get ks i ≡ Some k → number s (value_leaf k (universe_of_kind k) (variables_before ks i)) ≡ i
  unfolding s
  numbered-at i k q =
      let d = leaf.Region region.Static in
      ap (number s) (sym (at-place i k d q)) ∙ number-at s i d (distinct-from ks 0 0 ks (from-start ks h.kinds)) (within i k q)

  -- no earlier position is of the sub root
  not-shared : (n i r j : ℕ) (k : PositionKind) → sub_root_in e n ≡ variables_before ks r → slice_get ks r ≡ Some (type_variable 0 r) → j < r → slice_get ks j ≡ Some k → share (sub_root_in e) (leaf.Variable kind.Ty n) (value_leaf k (universe_of_kind k) (variables_before ks j)) ≡ false
  not-shared n i r j (type_variable u f) root first l q =
      let a = h.kinds j (type_variable u f) q in
      let its = root-at e ks j u f h.descends h.made q a.1 a.2 in
      let step = before-type ks f 0 f a.2 in
      let le = a.1 in
      let mono = before-later ks (suc f) r (omega (arith, l, le)) in
      rw (root, its) (numbers-differ (variables_before ks f) (variables_before ks r) (omega (arith, step, mono)))
  not-shared n i r j integer_variable root first l q = refl
  not-shared n i r j float_variable root first l q = refl
  not-shared n i r j (const_variable u) root first l q = refl
  not-shared n i r j (region_variable u) root first l q = refl
  not-shared n i r j (placeholder sort.Ty u a) root first l q = refl
  not-shared n i r j (placeholder sort.Region u a) root first l q = refl
  not-shared n i r j (placeholder sort.Const u a) root first l q = refl

  first-place : (n r : ℕ) → sub_root_in e n ≡ variables_before ks r → slice_get ks r ≡ Some (type_variable 0 r) → position_or_len (share (sub_root_in e) (leaf.Variable kind.Ty n)) s ≡ r
  first-place n r root first =
      let d = leaf.Region region.Static in
      let below = within r (type_variable 0 r) first in
      position_or_len_is (share (sub_root_in e) (leaf.Variable kind.Ty n)) s r d (omega (arith, below))
      (λ j l. (let some_kind = slice_get-get_or ks j integer_variable (let r_in = slice_get_within ks r _ first in omega (arith, l, r_in)) in
      rw (at-place j _ d some_kind) (not-shared n r r j (get_or ks j integer_variable) root first l some_kind)))
      (λ l. rw (at-place r (type_variable 0 r) d first, root, root-first e ks r h.descends h.made first) (eq-self (variables_before ks r)))

  kind-given : (i : ℕ) (k : PositionKind) → slice_get ks i ≡ Some k → position_kind (sub_root_in e) s (value_leaf k (universe_of_kind k) (variables_before ks i)) ≡ k
  kind-given i (type_variable u r) q =
      let a = h.kinds i (type_variable u r) q in
      let root = root-at e ks i u r h.descends h.made q a.1 a.2 in
      rw (first-place (variables_before ks i) r root a.2, a.0) refl
  kind-given i integer_variable q = refl
  kind-given i float_variable q = refl
  kind-given i (const_variable u) q = let a : u ≡ 0 = h.kinds i (const_variable u) q in rw a refl
  kind-given i (region_variable u) q = absurd (h.kinds i (region_variable u) q)
  kind-given i (placeholder sort.Ty u a) q = let z = h.kinds i (placeholder sort.Ty u a) q in rw (numbered-at i (placeholder sort.Ty u a) q, z.0, z.1) refl
  kind-given i (placeholder sort.Region u a) q = let z = h.kinds i (placeholder sort.Region u a) q in rw (numbered-at i (placeholder sort.Region u a) q, z.0, z.1) refl
  kind-given i (placeholder sort.Const u a) q = let z = h.kinds i (placeholder sort.Const u a) q in rw (numbered-at i (placeholder sort.Const u a) q, z.0, z.1) refl

-- the values have the kinds, in the table that is made
pub have_kinds : (c : Form) (e : Entries) → LinksDescend e → e.variables ≡ made_variables [] c.kinds → AreInputKinds c.kinds → HaveKinds c (value_leaves 0 c.kinds) (sub_root_in e)
unfolding s
have_kinds c e d m q =
    let ks = c.kinds in
    let h : IsMadeFor e ks = record { descends = d; made = m; kinds = q } in
    let from = from-start ks q in
    record {
      distinct = distinct-from ks 0 0 ks from;
      no_static = λ l a. no-static l 0 0 (all-from ks 0 0 ks from l a);
      kinds = same_lists (map (position_kind (sub_root_in e) (value_leaves 0 ks)) (value_leaves 0 ks)) ks (length-map (value_leaves 0 ks) (position_kind (sub_root_in e) (value_leaves 0 ks)) ∙ length-values 0 ks)
          (λ i k a. slice_get-map (position_kind (sub_root_in e) (value_leaves 0 ks)) (value_leaves 0 ks) i (value_leaf k (universe_of_kind k) (0 + variables_before ks i)) (value-at 0 ks i k a) ∙ (let none : 0 + variables_before ks i ≡ variables_before ks i = omega arith in rw none (ap Some (kind-given e ks h i k a))));
    }
