-- Renamings that keep variables and the regions that stay, and that there is a carrier for each caller.
use Rattle.std.proofs.Common.{◌≡◌, inl, inr, ℕ, zero, suc, ◌+◌, ◌≤◌, true, List, [], ◌∷◌, map, get_or, refl, sym, ap, subst, ◌∙◌, arith}
use Rattle.std.specs.Prelude.{◌⊎◌}
use Rattle.nts_model.specs.declared.labels.Sort.{Sort}
use Rattle.nts_model.specs.declared.labels.Sort.TheVariants as sort
use Rattle.nts_model.specs.declared.labels.VariableKind.{VariableKind}
use Rattle.nts_model.specs.declared.labels.VariableKind.TheVariants as kind
use Rattle.nts_model.specs.declared.labels.FreeRegion.{FreeRegion}
use Rattle.nts_model.specs.declared.labels.FreeRegion.TheVariants as region
use Rattle.nts_model.specs.declared.labels.Constant.{Constant}
use Rattle.nts_model.specs.declared.labels.Constant.TheVariants as constant
use Rattle.nts_model.specs.declared.labels.Leaf.{Leaf}
use Rattle.nts_model.specs.declared.labels.Leaf.TheVariants as leaf
use Rattle.nts_model.specs.Terms.Trees.{Tree, empty, sort_of_leaf}
use Rattle.nts_model.specs.Terms.Placeholders.{CanName, leaf_level_of, leaf_level}
use Rattle.nts_model.specs.Tables.Levels.{NamesAll}
use Rattle.nts_model.specs.Terms.Substitutions.{leaf_tree, StaysItself, IsConstant, FitsLeaf, Instance, instance_of, of_variable as variable_sort, of_constant as constant_sort, leaf_sort, Renaming, rename}
use Rattle.nts_model.specs.Lists.{Among}
use Rattle.nts_model.specs.Canonical.Numbered.{same, number, AreDistinct}
use Rattle.nts_model.specs.Refutation.Opening.{placeholder_in}
use Rattle.nts_model.specs.Answers.Responses.{placeholder_tree}
use Rattle.nts_model.specs.Refutation.Containing.{Carrier}
use Rattle.nts_theory.specs.Refutation.Refutation.{IsCarrying}
use Rattle.nts_model.proofs.Terms.Substituting.{replace-replace}
use Rattle.nts_model.proofs.Terms.Composing.{fits_itself, leaf_tree-inj as one_leaf}
use Rattle.nts_model.proofs.Terms.Listed.{either, same-no, original, map-map, map-tells}
use Rattle.nts_model.proofs.Terms.Renamings.{swapped, swapped-other, forward, backward, forward-injective, backward-forward, extension, map-forward}
use Rattle.nts_theory.proofs.Responses.Standing.{distinct_images}
use Rattle.nts_model.proofs.Terms.Imaging.{is_constant, constants, among_constants, distinct_constants}

-- what neither list has stays where it is
pub forward_others : (xs ys : List Leaf) (l : Leaf) → (Among xs l → ⊥) → (Among ys l → ⊥) → forward xs ys l ≡ l
forward_others [] ys l n m = refl
forward_others (x ∷ xs) [] l n m = refl
forward_others (x ∷ xs) (y ∷ ys) l n m =
    let e = forward_others xs ys l (λ i. n (inr i)) (λ i. m (inr i)) in
    ap (swapped (forward xs ys x) y) e
    ∙ swapped-other (forward xs ys x) y l (same-no l (forward xs ys x) (λ p. n (inl (forward-injective xs ys l x (e ∙ p))))) (same-no l y (λ p. m (inl p)))

pub backward_others : (xs ys : List Leaf) (l : Leaf) → (Among xs l → ⊥) → (Among ys l → ⊥) → backward xs ys l ≡ l
backward_others xs ys l n m = sym (ap (backward xs ys) (forward_others xs ys l n m)) ∙ backward-forward xs ys l

-- what is so of both lists stays so
swapped_property : (P : Leaf → Type 0) (x y l : Leaf) → P x → P y → P l → P (swapped x y l)
swapped_property P x y l a b c = elim (either (same l x)) [
  | inl e ↦ rw e b
  | inr e ↦ (elim (either (same l y)) [ inl q ↦ rw (e, q) a | inr q ↦ rw (e, q) c ])
]

pub forward_property : (P : Leaf → Type 0) (xs ys : List Leaf) → ((l : Leaf) → Among xs l → P l) → ((l : Leaf) → Among ys l → P l) → (l : Leaf) → P l → P (forward xs ys l)
forward_property P [] ys h k l p = p
forward_property P (x ∷ xs) [] h k l p = p
forward_property P (x ∷ xs) (y ∷ ys) h k l p =
    let below = forward_property P xs ys (λ m i. h m (inr i)) (λ m i. k m (inr i)) in
    swapped_property P (forward xs ys x) y (forward xs ys l) (below x (h x (inl refl))) (k y (inl refl)) (below l p)

pub backward_property : (P : Leaf → Type 0) (xs ys : List Leaf) → ((l : Leaf) → Among xs l → P l) → ((l : Leaf) → Among ys l → P l) → (l : Leaf) → P l → P (backward xs ys l)
backward_property P [] ys h k l p = p
backward_property P (x ∷ xs) [] h k l p = p
backward_property P (x ∷ xs) (y ∷ ys) h k l p =
    let below = forward_property P xs ys (λ m i. h m (inr i)) (λ m i. k m (inr i)) in
    backward_property P xs ys (λ m i. h m (inr i)) (λ m i. k m (inr i)) (swapped (forward xs ys x) y l) (swapped_property P (forward xs ys x) y l (below x (h x (inl refl))) (k y (inl refl)) p)

abbrev pub none_renamed : Renaming
none_renamed = record { to = λ l. l; from = λ l. l; back = λ l. refl; forth = λ l. refl; keeps_sorts = λ l. refl }

pub none_carrying : IsCarrying none_renamed
none_carrying = record { plain = λ r h. refl; variables = λ k n. refl }

-- one after another
abbrev pub then_by : Renaming → Renaming → Renaming
then_by ρ σ =
    record {
      to = λ l. σ.to (ρ.to l);
      from = λ l. ρ.from (σ.from l);
      back = λ l. ap ρ.from (σ.back (ρ.to l)) ∙ ρ.back l;
      forth = λ l. ap σ.to (ρ.forth (σ.from l)) ∙ σ.forth l;
      keeps_sorts = λ l. σ.keeps_sorts (ρ.to l) ∙ ρ.keeps_sorts l;
    }

pub then_carrying : (ρ σ : Renaming) → IsCarrying ρ → IsCarrying σ → IsCarrying (then_by ρ σ)
then_carrying ρ σ h k = record { plain = λ r s. ap σ.to (h.plain r s) ∙ k.plain r s; variables = λ v n. ap σ.to (h.variables v n) ∙ k.variables v n }

pub rename_then : (ρ σ : Renaming) (t : Tree) → rename σ (rename ρ t) ≡ rename (then_by ρ σ) t
rename_then ρ σ t = replace-replace (λ l. leaf_tree (σ.to l)) (λ l. leaf_tree (ρ.to l)) t

-- it is an instance
abbrev pub back_to : Renaming → Renaming
back_to ρ = record { to = ρ.from; from = ρ.to; back = ρ.forth; forth = ρ.back; keeps_sorts = λ l. sym (sym (ap leaf_sort (ρ.forth l)) ∙ ρ.keeps_sorts (ρ.from l)) }

pub back_carrying : (ρ : Renaming) → IsCarrying ρ → IsCarrying (back_to ρ)
back_carrying ρ h = record { plain = λ r s. ap ρ.from (sym (h.plain r s)) ∙ ρ.back (leaf.Region r); variables = λ k n. ap ρ.from (sym (h.variables k n)) ∙ ρ.back (leaf.Variable k n) }

region_by_sort : (ρ : Renaming) → IsCarrying ρ → (r : FreeRegion) (m : Leaf) → ρ.to (leaf.Region r) ≡ m → leaf_sort m ≡ variable_sort kind.Region → (q : FreeRegion) × (ρ.to (leaf.Region r) ≡ leaf.Region q)
region_by_sort ρ h r (leaf.Region q) e s = (q, e)
region_by_sort ρ h r (leaf.Variable k n) e s =
    let same : leaf.Region r ≡ leaf.Variable k n = sym (ρ.back (leaf.Region r)) ∙ ap ρ.from (e ∙ sym (h.variables k n)) ∙ ρ.back (leaf.Variable k n) in
    cc same
region_by_sort ρ h r (leaf.TyConstant a) e s = cc s
region_by_sort ρ h r (leaf.ConstConstant a) e s = cc s

pub region_carried : (ρ : Renaming) → IsCarrying ρ → (r : FreeRegion) → (q : FreeRegion) × (ρ.to (leaf.Region r) ≡ leaf.Region q)
region_carried ρ h r = region_by_sort ρ h r (ρ.to (leaf.Region r)) refl (ρ.keeps_sorts (leaf.Region r))

type_by_sort : (m : Leaf) → leaf_sort m ≡ constant_sort sort.Ty → (b : Constant) × (m ≡ leaf.TyConstant b)
type_by_sort (leaf.TyConstant b) e = (b, refl)
type_by_sort (leaf.ConstConstant b) e = cc e
type_by_sort (leaf.Variable k n) e = cc e
type_by_sort (leaf.Region r) e = cc e

const_by_sort : (m : Leaf) → leaf_sort m ≡ constant_sort sort.Const → (b : Constant) × (m ≡ leaf.ConstConstant b)
const_by_sort (leaf.ConstConstant b) e = (b, refl)
const_by_sort (leaf.TyConstant b) e = cc e
const_by_sort (leaf.Variable k n) e = cc e
const_by_sort (leaf.Region r) e = cc e

pub carried_fits : (ρ : Renaming) → IsCarrying ρ → (l : Leaf) → FitsLeaf l (leaf_tree (ρ.to l))
carried_fits ρ h (leaf.Variable k n) = rw (h.variables k n) (fits_itself (leaf.Variable k n))
carried_fits ρ h (leaf.Region r) = let (q, e) = region_carried ρ h r in rw e (fits_itself (leaf.Region q))
carried_fits ρ h (leaf.TyConstant a) = let (b, e) = type_by_sort (ρ.to (leaf.TyConstant a)) (ρ.keeps_sorts (leaf.TyConstant a)) in (b, ap leaf_tree e)
carried_fits ρ h (leaf.ConstConstant a) = let (b, e) = const_by_sort (ρ.to (leaf.ConstConstant a)) (ρ.keeps_sorts (leaf.ConstConstant a)) in (b, ap leaf_tree e)

abbrev pub instance_by : (ρ : Renaming) → IsCarrying ρ → Instance
instance_by ρ h =
    record {
      value = λ l. leaf_tree (ρ.to l);
      fits = carried_fits ρ h;
      formed = λ l. (tt, tt);
      closed = λ l. (tt, tt);
      distinct = λ l m i j e. sym (ρ.back l) ∙ ap ρ.from (one_leaf (ρ.to l) (ρ.to m) e) ∙ ρ.back m;
      stays = λ r s. ap leaf_tree (h.plain r s);
    }

-- lists without variables and fixed regions
pub record AreMovable (xs : List Leaf) : Type 0 where
  pub no_variables : (k : VariableKind) (n : ℕ) → Among xs (leaf.Variable k n) → ⊥
  pub no_fixed : (r : FreeRegion) → StaysItself r → Among xs (leaf.Region r) → ⊥

pub extension_carrying : (xs ys : List Leaf) (e : map leaf_sort xs ≡ map leaf_sort ys) → AreMovable xs → AreMovable ys → IsCarrying (extension xs ys e)
extension_carrying xs ys e h k =
    record {
      plain = λ r s. forward_others xs ys (leaf.Region r) (h.no_fixed r s) (k.no_fixed r s);
      variables = λ v n. forward_others xs ys (leaf.Variable v n) (h.no_variables v n) (k.no_variables v n);
    }

-- two copies of the numbers are one
pub data Half : Type 0 where
  even odd : ℕ → Half

abbrev next : Half → Half
next (even n) = odd n
next (odd n) = even (suc n)

abbrev half : ℕ → Half
half zero = even zero
half (suc n) = next (half n)

abbrev whole : Half → ℕ
whole (even n) = n + n
whole (odd n) = suc (n + n)

whole_next : (h : Half) → whole (next h) ≡ suc (whole h)
whole_next (even n) = refl
whole_next (odd n) = omega arith

whole_half : (n : ℕ) → whole (half n) ≡ n
whole_half zero = refl
whole_half (suc n) = whole_next (half n) ∙ ap suc (whole_half n)

twice_suc : (n : ℕ) → suc n + suc n ≡ suc (suc (n + n))
twice_suc n = omega arith

half_even : (n : ℕ) → half (n + n) ≡ even n
half_even zero = refl
half_even (suc n) = ap half (twice_suc n) ∙ ap (λ z. next (next z)) (half_even n)

half_odd : (n : ℕ) → half (suc (n + n)) ≡ odd n
half_odd n = ap next (half_even n)

-- the universes 0 and 1 are one, and those above are one lower
abbrev Named : Type 0
Named = ℕ × ℕ

abbrev merged : ℕ → ℕ → Named
merged zero n = (0, n + n)
merged (suc zero) n = (0, suc (n + n))
merged (suc (suc u)) n = (suc u, n)

abbrev parted_half : Half → Named
parted_half (even n) = (0, n)
parted_half (odd n) = (1, n)

abbrev parted : ℕ → ℕ → Named
parted zero n = parted_half (half n)
parted (suc u) n = (suc (suc u), n)

merged_half : (h : Half) → merged (parted_half h).0 (parted_half h).1 ≡ (0, whole h)
merged_half (even n) = refl
merged_half (odd n) = refl

merged_parted : (u n : ℕ) → merged (parted u n).0 (parted u n).1 ≡ (u, n)
merged_parted zero n = merged_half (half n) ∙ ap (λ z. (0, z)) (whole_half n)
merged_parted (suc u) n = refl

parted_merged : (u n : ℕ) → parted (merged u n).0 (merged u n).1 ≡ (u, n)
parted_merged zero n = ap parted_half (half_even n)
parted_merged (suc zero) n = ap parted_half (half_odd n)
parted_merged (suc (suc u)) n = refl

-- the universes up to p are the root, and those above are counted from p
abbrev pub lowered_name : ℕ → ℕ → ℕ → Named
lowered_name zero u n = (u, n)
lowered_name (suc p) u n = lowered_name p (merged u n).0 (merged u n).1

abbrev pub raised_name : ℕ → ℕ → ℕ → Named
raised_name zero u n = (u, n)
raised_name (suc p) u n = parted (raised_name p u n).0 (raised_name p u n).1

pub raised_lowered : (p u n : ℕ) → raised_name p (lowered_name p u n).0 (lowered_name p u n).1 ≡ (u, n)
raised_lowered zero u n = refl
raised_lowered (suc p) u n = ap (λ (z : Named). parted z.0 z.1) (raised_lowered p (merged u n).0 (merged u n).1) ∙ parted_merged u n

pub lowered_raised : (p u n : ℕ) → lowered_name p (raised_name p u n).0 (raised_name p u n).1 ≡ (u, n)
lowered_raised zero u n = refl
lowered_raised (suc p) u n =
    ap (λ (z : Named). lowered_name p z.0 z.1) (merged_parted (raised_name p u n).0 (raised_name p u n).1) ∙ lowered_raised p u n

merged_low : (p u n : ℕ) → u ≤ suc p → (merged u n).0 ≤ p
merged_low p zero n h = omega arith
merged_low p (suc zero) n h = omega arith
merged_low p (suc (suc u)) n h = omega (arith, h)

pub lowered_low : (p u n : ℕ) → u ≤ p → (lowered_name p u n).0 ≡ 0
lowered_low zero u n h = omega (arith, h)
lowered_low (suc p) u n h = lowered_low p (merged u n).0 (merged u n).1 (merged_low p u n h)

half_low : (h : Half) → (parted_half h).0 ≤ 1
half_low (even n) = omega arith
half_low (odd n) = omega arith

parted_low : (u n : ℕ) → (parted u n).0 ≤ suc u
parted_low zero n = half_low (half n)
parted_low (suc u) n = omega arith

pub raised_low : (p u n : ℕ) → (raised_name p u n).0 ≤ p + u
raised_low zero u n = omega arith
raised_low (suc p) u n =
    let a = parted_low (raised_name p u n).0 (raised_name p u n).1 in
    let b = raised_low p u n in
    omega (arith, a, b)

parted_above : (p u n : ℕ) → parted (p + suc u) n ≡ (suc p + suc u, n)
parted_above p u n =
    let e : p + suc u ≡ suc (p + u) = omega arith in
    let q : suc (suc (p + u)) ≡ suc p + suc u = omega arith in
    ap (λ z. parted z n) e ∙ ap (λ z. (z, n)) q

pub raised_new : (p u n : ℕ) → raised_name p (suc u) n ≡ (p + suc u, n)
raised_new zero u n = ap (λ z. (z, n)) (omega arith)
raised_new (suc p) u n = ap (λ (z : Named). parted z.0 z.1) (raised_new p u n) ∙ parted_above p u n

-- of leaves
abbrev pub named_constant : (ℕ → ℕ → Named) → Constant → Constant
named_constant f (constant.Placeholder u n) = constant.Placeholder (f u n).0 (f u n).1
named_constant f (constant.Param n) = constant.Param n

abbrev pub named_region : (ℕ → ℕ → Named) → FreeRegion → FreeRegion
named_region f (region.Placeholder u n) = region.Placeholder (f u n).0 (f u n).1
named_region f r = r

abbrev pub named_leaf : (ℕ → ℕ → Named) → Leaf → Leaf
named_leaf f (leaf.Variable k n) = leaf.Variable k n
named_leaf f (leaf.Region r) = leaf.Region (named_region f r)
named_leaf f (leaf.TyConstant a) = leaf.TyConstant (named_constant f a)
named_leaf f (leaf.ConstConstant a) = leaf.ConstConstant (named_constant f a)

module _ (f g : ℕ → ℕ → Named) (h : (u n : ℕ) → g (f u n).0 (f u n).1 ≡ (u, n)) where
  named_constants : (a : Constant) → named_constant g (named_constant f a) ≡ a
  named_constants (constant.Placeholder u n) = ap (λ (z : Named). constant.Placeholder z.0 z.1) (h u n)
  named_constants (constant.Param n) = refl

  named_regions : (r : FreeRegion) → named_region g (named_region f r) ≡ r
  named_regions (region.Placeholder u n) = ap (λ (z : Named). region.Placeholder z.0 z.1) (h u n)
  named_regions region.Static = refl
  named_regions region.Erased = refl
  named_regions region.Error = refl
  named_regions (region.EarlyParam n) = refl
  named_regions (region.LateParam n) = refl

  pub named_leaves : (l : Leaf) → named_leaf g (named_leaf f l) ≡ l
  named_leaves (leaf.Variable k n) = refl
  named_leaves (leaf.Region r) = ap leaf.Region (named_regions r)
  named_leaves (leaf.TyConstant a) = ap leaf.TyConstant (named_constants a)
  named_leaves (leaf.ConstConstant a) = ap leaf.ConstConstant (named_constants a)

pub named_sorts : (f : ℕ → ℕ → Named) (l : Leaf) → leaf_sort (named_leaf f l) ≡ leaf_sort l
named_sorts f (leaf.Variable k n) = refl
named_sorts f (leaf.Region r) = refl
named_sorts f (leaf.TyConstant a) = refl
named_sorts f (leaf.ConstConstant a) = refl

abbrev pub shifted : ℕ → Renaming
shifted p =
    record {
      to = named_leaf (lowered_name p);
      from = named_leaf (raised_name p);
      back = named_leaves (lowered_name p) (raised_name p) (raised_lowered p);
      forth = named_leaves (raised_name p) (lowered_name p) (lowered_raised p);
      keeps_sorts = named_sorts (lowered_name p);
    }

shifted_plain : (p : ℕ) (r : FreeRegion) → StaysItself r → named_leaf (lowered_name p) (leaf.Region r) ≡ leaf.Region r
shifted_plain p region.Static h = refl
shifted_plain p region.Erased h = refl
shifted_plain p region.Error h = refl
shifted_plain p (region.Placeholder u n) h = absurd h
shifted_plain p (region.EarlyParam n) h = absurd h
shifted_plain p (region.LateParam n) h = absurd h

pub shifted_carrying : (p : ℕ) → IsCarrying (shifted p)
shifted_carrying p = record { plain = shifted_plain p; variables = λ k n. refl }

-- a universe names what is of the universe or below
constant_level_low : (p : ℕ) (l : Leaf) → CanName p (leaf_level_of l) → CanName 0 (leaf_level_of (named_leaf (lowered_name p) l))
constant_level_low p (leaf.Variable k n) h = tt
constant_level_low p (leaf.Region (region.Placeholder u n)) h = let e = lowered_low p u n h in omega (arith, e)
constant_level_low p (leaf.Region region.Static) h = tt
constant_level_low p (leaf.Region region.Erased) h = tt
constant_level_low p (leaf.Region region.Error) h = tt
constant_level_low p (leaf.Region (region.EarlyParam n)) h = tt
constant_level_low p (leaf.Region (region.LateParam n)) h = tt
constant_level_low p (leaf.TyConstant (constant.Placeholder u n)) h = let e = lowered_low p u n h in omega (arith, e)
constant_level_low p (leaf.TyConstant (constant.Param n)) h = tt
constant_level_low p (leaf.ConstConstant (constant.Placeholder u n)) h = let e = lowered_low p u n h in omega (arith, e)
constant_level_low p (leaf.ConstConstant (constant.Param n)) h = tt

pub shifted_low : (p : ℕ) (l : Leaf) → CanName p (leaf_level_of l) → CanName 0 (leaf_level_of (named_leaf (lowered_name p) l))
shifted_low p l h = constant_level_low p l h

raised_level : (p u : ℕ) (l : Leaf) → CanName u (leaf_level_of l) → CanName (p + u) (leaf_level_of (named_leaf (raised_name p) l))
raised_level p u (leaf.Variable k n) h = tt
raised_level p u (leaf.Region (region.Placeholder v n)) h = let e = raised_low p v n in omega (arith, e, h)
raised_level p u (leaf.Region region.Static) h = tt
raised_level p u (leaf.Region region.Erased) h = tt
raised_level p u (leaf.Region region.Error) h = tt
raised_level p u (leaf.Region (region.EarlyParam n)) h = tt
raised_level p u (leaf.Region (region.LateParam n)) h = tt
raised_level p u (leaf.TyConstant (constant.Placeholder v n)) h = let e = raised_low p v n in omega (arith, e, h)
raised_level p u (leaf.TyConstant (constant.Param n)) h = tt
raised_level p u (leaf.ConstConstant (constant.Placeholder v n)) h = let e = raised_low p v n in omega (arith, e, h)
raised_level p u (leaf.ConstConstant (constant.Param n)) h = tt

raised_leaf : (p : ℕ) (s : Sort) (u n : ℕ) → named_leaf (raised_name p) (placeholder_in (suc u) s n) ≡ placeholder_in (p + suc u) s n
raised_leaf p sort.Ty u n = ap (λ (z : Named). leaf.TyConstant (constant.Placeholder z.0 z.1)) (raised_new p u n)
raised_leaf p sort.Const u n = ap (λ (z : Named). leaf.ConstConstant (constant.Placeholder z.0 z.1)) (raised_new p u n)
raised_leaf p sort.Region u n = ap (λ (z : Named). leaf.Region (region.Placeholder z.0 z.1)) (raised_new p u n)

pub placeholder_leaf : (s : Sort) (u n : ℕ) → placeholder_tree s u n ≡ leaf_tree (placeholder_in u s n)
placeholder_leaf sort.Ty u n = refl
placeholder_leaf sort.Const u n = refl
placeholder_leaf sort.Region u n = refl

pub leaf_named : (u : ℕ) (l : Leaf) → CanName u (leaf_level_of l) → NamesAll leaf_level u (leaf_tree l)
leaf_named u l h = (h, tt)

-- a carrier: the constants among the originals go to the root's placeholders with their numbers
constant_is : (l : Leaf) → IsConstant l → is_constant l ≡ true
constant_is (leaf.TyConstant a) h = refl
constant_is (leaf.ConstConstant a) h = refl
constant_is (leaf.Variable k n) h = absurd h
constant_is (leaf.Region r) h = absurd h

is_constants : (ls : List Leaf) (l : Leaf) → Among (constants ls) l → is_constant l ≡ true
is_constants [] l i = absurd i
is_constants (x ∷ xs) l i = elim (either (is_constant x)) [
  | inl c ↦ go (λ j. is_constants xs l j) c (rw c at i)
  | inr c ↦ is_constants xs l (rw c at i)
]
  where
    go : ((j : Among (constants xs) l) → is_constant l ≡ true) → is_constant x ≡ true → (l ≡ x) ⊎ Among (constants xs) l → is_constant l ≡ true
    go f c (inl e) = ap is_constant e ∙ c
    go f c (inr j) = f j

in_constants : (ls : List Leaf) (l : Leaf) → IsConstant l → Among ls l → Among (constants ls) l
in_constants [] l c i = absurd i
in_constants (x ∷ xs) l c (inl e) = rw (ap is_constant (sym e) ∙ constant_is l c) (inl e)
in_constants (x ∷ xs) l c (inr i) = elim (either (is_constant x)) [
  | inl d ↦ rw d (inr (in_constants xs l c i))
  | inr d ↦ rw d (in_constants xs l c i)
]

among_mapped : (f : Leaf → Leaf) (s : List Leaf) (m : Leaf) → Among (map f s) m → (l : Leaf) × Among s l × (m ≡ f l)
among_mapped f [] m i = absurd i
among_mapped f (x ∷ xs) m (inl e) = (x, inl refl, e)
among_mapped f (x ∷ xs) m (inr i) = (let r = among_mapped f xs m i in (r.0, inr r.1, r.2))

same_number : (u : ℕ) (s t : Sort) (n m : ℕ) → placeholder_in u s n ≡ placeholder_in u t m → n ≡ m
same_number u sort.Ty sort.Ty n m e = cc e
same_number u sort.Const sort.Const n m e = cc e
same_number u sort.Region sort.Region n m e = cc e
same_number u sort.Ty sort.Const n m e = cc e
same_number u sort.Ty sort.Region n m e = cc e
same_number u sort.Const sort.Ty n m e = cc e
same_number u sort.Const sort.Region n m e = cc e
same_number u sort.Region sort.Ty n m e = cc e
same_number u sort.Region sort.Const n m e = cc e

sort_at_root : (l : Leaf) (n : ℕ) → is_constant l ≡ true → leaf_sort (placeholder_in 0 (sort_of_leaf l) n) ≡ leaf_sort l
sort_at_root (leaf.TyConstant a) n e = refl
sort_at_root (leaf.ConstConstant a) n e = refl
sort_at_root (leaf.Variable k m) n e = cc e
sort_at_root (leaf.Region r) n e = cc e

-- constants that are no variables and regions
no_variable_constant : (k : VariableKind) (n : ℕ) → leaf_sort (leaf.Variable k n) ≡ constant_sort sort.Ty ⊎ leaf_sort (leaf.Variable k n) ≡ constant_sort sort.Const → ⊥
no_variable_constant k n (inl e) = cc e
no_variable_constant k n (inr e) = cc e

constants_movable : (xs : List Leaf) → ((l : Leaf) → Among xs l → is_constant l ≡ true) → AreMovable xs
constants_movable xs h = record { no_variables = λ k n i. (let e = h (leaf.Variable k n) i in cc e); no_fixed = λ r s i. (let e = h (leaf.Region r) i in cc e) }

constant_by_sorts : (l m : Leaf) → leaf_sort l ≡ leaf_sort m → is_constant m ≡ true → is_constant l ≡ true
constant_by_sorts (leaf.TyConstant b) m e c = refl
constant_by_sorts (leaf.ConstConstant b) m e c = refl
constant_by_sorts (leaf.Variable k n) (leaf.TyConstant a) e c = cc e
constant_by_sorts (leaf.Variable k n) (leaf.ConstConstant a) e c = cc e
constant_by_sorts (leaf.Variable k n) (leaf.Variable q x) e c = c
constant_by_sorts (leaf.Variable k n) (leaf.Region x) e c = c
constant_by_sorts (leaf.Region r) (leaf.TyConstant a) e c = cc e
constant_by_sorts (leaf.Region r) (leaf.ConstConstant a) e c = cc e
constant_by_sorts (leaf.Region r) (leaf.Variable q x) e c = c
constant_by_sorts (leaf.Region r) (leaf.Region x) e c = c

module _ (p : ℕ) (ls : List Leaf) (distinct : AreDistinct ls) (low : (l : Leaf) → Among ls l → IsConstant l → CanName p (leaf_level_of l)) where
  abbrev root_leaf : Leaf → Leaf
  root_leaf l = placeholder_in 0 (sort_of_leaf l) (number ls l)

  abbrev carried : List Leaf
  carried = map (named_leaf (lowered_name p)) (constants ls)

  abbrev rooted : List Leaf
  rooted = map root_leaf (constants ls)

  same_sorts : (s : List Leaf) → ((l : Leaf) → Among s l → is_constant l ≡ true) → map leaf_sort (map (named_leaf (lowered_name p)) s) ≡ map leaf_sort (map root_leaf s)
  same_sorts [] h = refl
  same_sorts (x ∷ xs) h =
      let first : leaf_sort (named_leaf (lowered_name p) x) ≡ leaf_sort (root_leaf x) = named_sorts (lowered_name p) x ∙ sym (sort_at_root x (number ls x) (h x (inl refl))) in
      let rest = same_sorts xs (λ l i. h l (inr i)) in
      cc (first, rest)

  pub sorts : map leaf_sort carried ≡ map leaf_sort rooted
  sorts = same_sorts (constants ls) (is_constants ls)

  abbrev exchange : Renaming
  exchange = extension carried rooted sorts

  carried_constant : (l : Leaf) → Among carried l → is_constant l ≡ true
  carried_constant l i =
      let r = among_mapped (named_leaf (lowered_name p)) (constants ls) l i in
      constant_by_sorts l r.0 (ap leaf_sort r.2 ∙ named_sorts (lowered_name p) r.0) (is_constants ls r.0 r.1)

  rooted_constant : (l : Leaf) → Among rooted l → is_constant l ≡ true
  rooted_constant l i =
      let r = among_mapped root_leaf (constants ls) l i in
      constant_by_sorts l r.0 (ap leaf_sort r.2 ∙ sort_at_root r.0 (number ls r.0) (is_constants ls r.0 r.1)) (is_constants ls r.0 r.1)

  exchange_carrying : IsCarrying exchange
  exchange_carrying = extension_carrying carried rooted sorts (constants_movable carried carried_constant) (constants_movable rooted rooted_constant)

  abbrev pub moved : Renaming
  moved = then_by (shifted p) exchange

  pub moved_carrying : IsCarrying moved
  moved_carrying = then_carrying (shifted p) exchange (shifted_carrying p) exchange_carrying

  constant_again : (l : Leaf) → is_constant l ≡ true → IsConstant l
  constant_again (leaf.TyConstant a) e = tt
  constant_again (leaf.ConstConstant a) e = tt
  constant_again (leaf.Variable k n) e = cc e
  constant_again (leaf.Region r) e = cc e

  root_named : (u : ℕ) (s : Sort) (n : ℕ) → CanName u (leaf_level_of (placeholder_in 0 s n))
  root_named u sort.Ty n = omega arith
  root_named u sort.Const n = omega arith
  root_named u sort.Region n = omega arith

  more_named : (u : ℕ) (l : Leaf) → CanName 0 (leaf_level_of l) → CanName u (leaf_level_of l)
  more_named u (leaf.Variable k n) h = tt
  more_named u (leaf.Region (region.Placeholder v n)) h = omega (arith, h)
  more_named u (leaf.Region region.Static) h = tt
  more_named u (leaf.Region region.Erased) h = tt
  more_named u (leaf.Region region.Error) h = tt
  more_named u (leaf.Region (region.EarlyParam n)) h = tt
  more_named u (leaf.Region (region.LateParam n)) h = tt
  more_named u (leaf.TyConstant (constant.Placeholder v n)) h = omega (arith, h)
  more_named u (leaf.TyConstant (constant.Param n)) h = tt
  more_named u (leaf.ConstConstant (constant.Placeholder v n)) h = omega (arith, h)
  more_named u (leaf.ConstConstant (constant.Param n)) h = tt

  carried_named : (u : ℕ) (l : Leaf) → Among carried l → CanName u (leaf_level_of l)
  carried_named u l i =
      let r = among_mapped (named_leaf (lowered_name p)) (constants ls) l i in
      let a = among_constants ls r.0 r.1 in
      let c = constant_again r.0 (is_constants ls r.0 r.1) in
      subst (λ z. CanName u (leaf_level_of z)) (sym r.2) (more_named u (named_leaf (lowered_name p) r.0) (constant_level_low p r.0 (low r.0 a c)))

  rooted_named : (u : ℕ) (l : Leaf) → Among rooted l → CanName u (leaf_level_of l)
  rooted_named u l i =
      let r = among_mapped root_leaf (constants ls) l i in
      subst (λ z. CanName u (leaf_level_of z)) (sym r.2) (root_named u (sort_of_leaf r.0) (number ls r.0))

  pub moved_low : (l : Leaf) → CanName p (leaf_level_of l) → CanName 0 (leaf_level_of (moved.to l))
  moved_low l h = forward_property (λ z. CanName 0 (leaf_level_of z)) carried rooted (carried_named 0) (rooted_named 0) (named_leaf (lowered_name p) l) (constant_level_low p l h)

  pub moved_raises : (l : Leaf) (u : ℕ) → CanName u (leaf_level_of l) → CanName (p + u) (leaf_level_of (moved.from l))
  moved_raises l u h = raised_level p u (backward carried rooted l) (backward_property (λ z. CanName u (leaf_level_of z)) carried rooted (carried_named u) (rooted_named u) l h)

  new_other : (xs : List Leaf) → ((l : Leaf) → Among xs l → CanName 0 (leaf_level_of l)) → (s : Sort) (u n : ℕ) → Among xs (placeholder_in (suc u) s n) → ⊥
  new_other xs h sort.Ty u n i = let z = h _ i in omega (arith, z)
  new_other xs h sort.Const u n i = let z = h _ i in omega (arith, z)
  new_other xs h sort.Region u n i = let z = h _ i in omega (arith, z)

  pub moved_new : (s : Sort) (u n : ℕ) → moved.from (placeholder_in (suc u) s n) ≡ placeholder_in (p + suc u) s n
  moved_new s u n =
      ap (named_leaf (raised_name p)) (backward_others carried rooted (placeholder_in (suc u) s n) (new_other carried (carried_named 0) s u n) (new_other rooted (rooted_named 0) s u n))
      ∙ raised_leaf p s u n

  carried_distinct : AreDistinct carried
  carried_distinct =
      distinct_images (named_leaf (lowered_name p)) (constants ls) (distinct_constants ls distinct)
      (λ a b i j e. sym ((shifted p).back a) ∙ ap (named_leaf (raised_name p)) e ∙ (shifted p).back b)

  rooted_distinct : AreDistinct rooted
  rooted_distinct =
      distinct_images root_leaf (constants ls) (distinct_constants ls distinct)
      (λ a b i j e. (let n = same_number 0 (sort_of_leaf a) (sort_of_leaf b) (number ls a) (number ls b) e in
      one_leaf a b (sym (original ls a (among_constants ls a i)) ∙ ap (λ z. get_or (map leaf_tree ls) z empty) n ∙ original ls b (among_constants ls b j))))

  pub moved_original : (l : Leaf) → Among ls l → IsConstant l → moved.to l ≡ root_leaf l
  moved_original l i c =
      let all : map (λ x. forward carried rooted (named_leaf (lowered_name p) x)) (constants ls) ≡ map root_leaf (constants ls) =
      sym (map-map (forward carried rooted) (named_leaf (lowered_name p)) (constants ls)) ∙ map-forward carried rooted carried_distinct rooted_distinct sorts in
      map-tells (λ x. forward carried rooted (named_leaf (lowered_name p) x)) root_leaf (constants ls) all l (in_constants ls l c i)

  -- each caller's universe and each list of distinct originals, the constants of which it names, have a carrier
  unfoldable pub carrier : Carrier p ls
  carrier =
      record {
        to = instance_by moved moved_carrying;
        back = instance_by (back_to moved) (back_carrying moved moved_carrying);
        returns = λ l. ap leaf_tree (moved.back l);
        free = λ r. (let (q, e) = region_carried moved moved_carrying r in (q, ap leaf_tree e));
        lowers = λ l h. leaf_named 0 (moved.to l) (moved_low l h);
        raises = λ l u h. leaf_named (p + u) (moved.from l) (moved_raises l u h);
        new = λ s u n. ap (instance_of (instance_by (back_to moved) (back_carrying moved moved_carrying))) (placeholder_leaf s (suc u) n) ∙ ap leaf_tree (moved_new s u n) ∙ sym (placeholder_leaf s (p + suc u) n);
        original = λ l i c. ap leaf_tree (moved_original l i c) ∙ sym (placeholder_leaf (sort_of_leaf l) 0 (number ls l));
      }
