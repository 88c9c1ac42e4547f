-- The answer that a head has at first may be applied where its input is asked.
use Rattle.std.proofs.Common.{◌≡◌, inl, inr, ⊎_elim, ℕ, suc, ◌+◌, ◌≤◌, List, [], ◌∷◌, Some, map, refl, sym, ap, ◌∙◌, arith, subst}
use Rattle.std.specs.Prelude.{slice_get}
use Rattle.nts_model.specs.declared.labels.Sort.{Sort}
use Rattle.nts_model.specs.declared.labels.Sort.TheVariants as sort
use Rattle.nts_model.specs.declared.labels.VariableKind.TheVariants as kind
use Rattle.nts_model.specs.declared.labels.FreeRegion.TheVariants as region
use Rattle.nts_model.specs.declared.labels.Constant.TheVariants as constant
use Rattle.nts_model.specs.declared.labels.Leaf.{Leaf}
use Rattle.nts_model.specs.declared.labels.Leaf.TheVariants as leaf
use Rattle.nts_model.specs.declared.labels.BoundVarIndexKind.TheVariants as index
use Rattle.nts_model.specs.declared.labels.Label.TheVariants as label
use Rattle.nts_model.specs.Terms.Trees.{Tree}
use Rattle.nts_model.specs.Lists.{Among}
use Rattle.nts_model.specs.Terms.Substitutions.{leaf_sort, LeafSort, of_variable, of_constant}
use Rattle.nts_model.specs.Canonical.Numbered.{number, position, AreDistinct}
use Rattle.nts_model.specs.Canonical.Inputs.{Input, IsInput, PositionKind, type_variable, integer_variable, float_variable, const_variable, region_variable, placeholder, position_kind_at, originals, canonical_of}
use Rattle.nts_model.specs.Answers.Responses.{universe_of_kind, greatest, IsOverPositions, own_leaf, leaves_of_kinds, IsLeafIn, IsResponseTo}
use Rattle.nts_model.specs.Searching.Stacks.{IsBounded}
use Rattle.nts_model.specs.Searching.Driving.{sort_at, positions_from, unconstrained}
use Rattle.nts_model.proofs.Terms.Listed.{same-yes, tell}
use Rattle.nts_model.proofs.Lists.{contains_none}
use Rattle.nts_model.proofs.Canonical.CanonicalForms.{originals_are_leaves}

-- kinds of the root, whose placeholders are named by their positions
abbrev pub IsKindAt : ℕ → PositionKind → Type 0
IsKindAt b (type_variable u r) = u ≡ 0
IsKindAt b (const_variable u) = u ≡ 0
IsKindAt b (region_variable u) = u ≡ 0
IsKindAt b (placeholder s u n) = (u ≡ 0) × (n ≡ b)
IsKindAt b k = Unit {0}

abbrev pub AreInOrder : ℕ → List PositionKind → Type 0
AreInOrder b [] = Unit {0}
AreInOrder b (k ∷ ks) = IsKindAt b k × AreInOrder (suc b) ks

-- those of an input are
at_kind : (o : LeafSort) (f n b : ℕ) → n ≡ b → IsKindAt b (position_kind_at o f n)
at_kind (of_variable kind.Ty) f n b e = refl
at_kind (of_variable kind.Int) f n b e = tt
at_kind (of_variable kind.Float) f n b e = tt
at_kind (of_variable kind.Const) f n b e = refl
at_kind (of_variable kind.Region) f n b e = (refl, e)
at_kind (of_constant s) f n b e = (refl, e)

kinds_from : (f g : Leaf → ℕ) (b : ℕ) (ls : List Leaf) → AreDistinct ls → ((l : Leaf) → Among ls l → g l ≡ b + number ls l) → AreInOrder b (map (λ l. position_kind_at (leaf_sort l) (f l) (g l)) ls)
kinds_from f g b [] d h = tt
kinds_from f g b (x ∷ xs) d h = (
  at_kind (leaf_sort x) (f x) (g x) b (let a : number (x ∷ xs) x ≡ 0 = rw (same-yes x x refl) refl in let q = h x (inl refl) in omega (arith, q, a)),
  kinds_from f g (suc b) xs d.1 (λ l i. ⊎_elim
      (λ e. absurd (d.0 (subst (Among xs) e i)))
      (λ e. let a : number (x ∷ xs) l ≡ 1 + number xs l = rw e refl in let q = h l (inr i) in omega (arith, q, a))
      (tell l x)),
)

pub input_kinds : (i : Input) → IsInput i → AreInOrder 0 (canonical_of i).kinds
input_kinds i h = kinds_from _ (number (originals i)) 0 (originals i) (originals_are_leaves i h).0 (λ l j. omega arith)

-- the number of a position's leaf
abbrev leaf_number : Leaf → ℕ
leaf_number (leaf.Variable k n) = n
leaf_number (leaf.Region (region.Placeholder u n)) = n
leaf_number (leaf.TyConstant (constant.Placeholder u n)) = n
leaf_number (leaf.ConstConstant (constant.Placeholder u n)) = n
leaf_number l = 0

own_number : (b : ℕ) (k : PositionKind) → IsKindAt b k → leaf_number (own_leaf b k) ≡ b
own_number b (type_variable u r) h = refl
own_number b integer_variable h = refl
own_number b float_variable h = refl
own_number b (const_variable u) h = refl
own_number b (region_variable u) h = refl
own_number b (placeholder sort.Ty u n) h = h.1
own_number b (placeholder sort.Const u n) h = h.1
own_number b (placeholder sort.Region u n) h = h.1

later_number : (b : ℕ) (ks : List PositionKind) (l : Leaf) → AreInOrder b ks → Among (leaves_of_kinds b ks) l → b ≤ leaf_number l
later_number b [] l h i = absurd i
later_number b (k ∷ ks) l h (inl e) = (let q = own_number b k h.0 in let p = ap leaf_number e in omega (arith, p, q))
later_number b (k ∷ ks) l h (inr i) = (let q = later_number (suc b) ks l h.1 i in omega (arith, q))

order_distinct : (b : ℕ) (ks : List PositionKind) → AreInOrder b ks → AreDistinct (leaves_of_kinds b ks)
order_distinct b [] h = tt
order_distinct b (k ∷ ks) h = (
  (λ i. let q = later_number (suc b) ks (own_leaf b k) h.1 i in let p = own_number b k h.0 in omega (arith, p, q)),
  order_distinct (suc b) ks h.1,
)

-- each leaf is one of the input's
own_in_all : (all : List PositionKind) (b : ℕ) (k : PositionKind) → IsKindAt b k → slice_get all b ≡ Some k → IsLeafIn all (own_leaf b k)
own_in_all all b (type_variable u r) h e = tt
own_in_all all b integer_variable h e = tt
own_in_all all b float_variable h e = tt
own_in_all all b (const_variable u) h e = tt
own_in_all all b (region_variable u) h e = tt
own_in_all all b (placeholder sort.Ty u n) h e = (let x = h.0 in let y = h.1 in rw (x, y) (e ∙ rw (x, y) refl))
own_in_all all b (placeholder sort.Const u n) h e = (let x = h.0 in let y = h.1 in rw (x, y) (e ∙ rw (x, y) refl))
own_in_all all b (placeholder sort.Region u n) h e = (let x = h.0 in let y = h.1 in rw (x, y) (e ∙ rw (x, y) refl))

all_in : (all : List PositionKind) (b : ℕ) (ks : List PositionKind) → AreInOrder b ks → ((j : ℕ) → slice_get all (b + j) ≡ slice_get ks j) → (l : Leaf) → Among (leaves_of_kinds b ks) l → IsLeafIn all l
all_in all b [] h g l i = absurd i
all_in all b (k ∷ ks) h g l (inl e) =
    (let here : slice_get all b ≡ Some k = (let z : b + 0 ≡ b = omega arith in ap (slice_get all) (sym z) ∙ g 0) in
    subst (IsLeafIn all) (sym e) (own_in_all all b k h.0 here))
all_in all b (k ∷ ks) h g l (inr i) =
    all_in all (suc b) ks h.1 (λ j. let z : suc b + j ≡ b + suc j = omega arith in ap (slice_get all) z ∙ g (suc j)) l i

pub no_leaf_there : (l : Leaf) (s : Sort) (n : ℕ) → label.Leaf l ≡ label.Bound s index.Canonical n → ⊥
no_leaf_there l s n e = cc e

position_over : (s : Sort) (n : ℕ) → IsOverPositions (position s n)
position_over s n = record { leaves = λ l i. absurd (⊎_elim (no_leaf_there l s n) (λ z. z) i); formed = (tt, tt) }

positions_over : (b : ℕ) (ks : List PositionKind) (t : Tree) → Among (positions_from b ks) t → IsOverPositions t
positions_over b [] t i = absurd i
positions_over b (k ∷ ks) t (inl e) = subst IsOverPositions (sym e) (position_over (sort_at k) b)
positions_over b (k ∷ ks) t (inr i) = positions_over (suc b) ks t i

pub initial_fits : (i : Input) → IsInput i → IsResponseTo (canonical_of i).kinds (unconstrained (canonical_of i).kinds)
initial_fits i h =
    let ks = (canonical_of i).kinds in
    let o : AreInOrder 0 ks = input_kinds i h in
    record {
      values = positions_over 0 ks;
      left = λ x j. absurd (contains_none x j);
      right = λ x j. absurd (contains_none x j);
      goals = λ g j. absurd j;
      distinct = order_distinct 0 ks o;
      leaves = all_in ks 0 ks o (λ j. let z : 0 + j ≡ j = omega arith in ap (slice_get ks) z);
    }

-- all its positions are of the root
root_kind : (b : ℕ) (k : PositionKind) → IsKindAt b k → universe_of_kind k ≡ 0
root_kind b (type_variable u r) h = h
root_kind b integer_variable h = refl
root_kind b float_variable h = refl
root_kind b (const_variable u) h = h
root_kind b (region_variable u) h = h
root_kind b (placeholder s u n) h = h.0

root_kinds : (b : ℕ) (ks : List PositionKind) → AreInOrder b ks → greatest ks ≡ 0
root_kinds b [] h = refl
root_kinds b (k ∷ ks) h = let x = root_kind b k h.0 in let y = root_kinds (suc b) ks h.1 in rw (x, y) refl

pub initial_bounded : (i : Input) → IsInput i → IsBounded (unconstrained (canonical_of i).kinds)
initial_bounded i h = let x = root_kinds 0 (canonical_of i).kinds (input_kinds i h) in omega (arith, x)
