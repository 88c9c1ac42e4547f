-- Distinct leaves have given images in some instance.
use Rattle.std.proofs.Common.{◌≡◌, ◌⊎◌, inl, inr, Bool, true, false, cond, List, [], ◌∷◌, map, refl, sym, ap, ◌∙◌, subst}
use Rattle.nts_model.specs.declared.labels.Sort.TheVariants as sort
use Rattle.nts_model.specs.declared.labels.FreeRegion.TheVariants as region
use Rattle.nts_model.specs.declared.labels.Leaf.{Leaf}
use Rattle.nts_model.specs.declared.labels.Leaf.TheVariants as leaf
use Rattle.nts_model.specs.declared.labels.Label.TheVariants as label
use Rattle.nts_model.specs.Terms.Trees.{Tree, node, IsClosed, IsFormed}
use Rattle.nts_model.specs.Terms.Substitutions.{leaf_tree, FitsLeaf, IsConstant, Instance, of_constant, leaf_sort}
use Rattle.nts_model.specs.Lists.{Among}
use Rattle.nts_model.specs.Derivations.Handlers.{IsFixed}
use Rattle.nts_model.specs.Canonical.Numbered.{same, AreDistinct}
use Rattle.nts_model.proofs.Terms.Listed.{tell, same-yes, same-no, either, map-equal}
use Rattle.nts_model.proofs.Terms.Renamings.{forward, backward, backward-forward, sorts-forward, map-forward}
use Rattle.nts_model.proofs.Terms.Composing.{fits_itself}

-- what a leaf may stand for in an instance
pub record IsImage (l : Leaf) (t : Tree) : Type 0 where
  pub fits : FitsLeaf l t
  pub formed : IsFormed t
  pub closed : IsClosed t
  pub stays : IsFixed l → t ≡ leaf_tree l

abbrev pub AreImages : List Leaf → List Tree → Type 0
AreImages [] [] = Unit {0}
AreImages (l ∷ ls) (t ∷ ts) = IsImage l t × AreImages ls ts
AreImages ls ts = ⊥

abbrev pub is_constant : Leaf → Bool
is_constant (leaf.TyConstant a) = true
is_constant (leaf.ConstConstant a) = true
is_constant l = false

-- the leaf that a tree is
abbrev pub leaf_of : Tree → Leaf
leaf_of (node (label.Leaf l) c) = l
leaf_of t = leaf.Region region.Static

-- the constants of the list, and their images
abbrev pub constants : List Leaf → List Leaf
constants [] = []
constants (l ∷ ls) = cond (is_constant l) (l ∷ constants ls) (constants ls)

abbrev pub constant_images : List Leaf → List Tree → List Leaf
constant_images [] ts = []
constant_images (l ∷ ls) [] = []
constant_images (l ∷ ls) (t ∷ ts) = cond (is_constant l) (leaf_of t ∷ constant_images ls ts) (constant_images ls ts)

-- the image of another leaf: from the list, or itself
abbrev listed : List Leaf → List Tree → Leaf → Tree
listed [] ts l = leaf_tree l
listed (x ∷ xs) [] l = leaf_tree l
listed (x ∷ xs) (t ∷ ts) l = cond (same l x) t (listed xs ts l)

abbrev image : (Leaf → Leaf) → List Leaf → List Tree → Leaf → Tree
image f ls ts l = cond (is_constant l) (leaf_tree (f l)) (listed ls ts l)

-- the images are the given ones
constant_leaf : (l : Leaf) (t : Tree) → is_constant l ≡ true → FitsLeaf l t → t ≡ leaf_tree (leaf_of t)
constant_leaf (leaf.TyConstant a) t e (b, i) = rw i refl
constant_leaf (leaf.ConstConstant a) t e (b, i) = rw i refl
constant_leaf (leaf.Variable k n) t e h = cc e
constant_leaf (leaf.Region r) t e h = cc e

listed_other : (x : Leaf) (xs : List Leaf) (t : Tree) (ts : List Tree) (f : Leaf → Leaf) (l : Leaf) → (l ≡ x → ⊥) → image f (x ∷ xs) (t ∷ ts) l ≡ image f xs ts l
listed_other x xs t ts f l n = rw (same-no l x n) refl

head_image : (x : Leaf) (xs : List Leaf) (t : Tree) (ts : List Tree) (f : Leaf → Leaf) → FitsLeaf x t → map f (constants (x ∷ xs)) ≡ constant_images (x ∷ xs) (t ∷ ts) → (image f (x ∷ xs) (t ∷ ts) x ≡ t) × (map f (constants xs) ≡ constant_images xs ts)
head_image x xs t ts f h e = elim (either (is_constant x)) [
  | inl c ↦ go c (rw c at e)
  | inr c ↦ (rw c (rw (same-yes x x refl) refl), rw c at e)
]
  where
    go : is_constant x ≡ true → f x ∷ map f (constants xs) ≡ leaf_of t ∷ constant_images xs ts → (image f (x ∷ xs) (t ∷ ts) x ≡ t) × (map f (constants xs) ≡ constant_images xs ts)
    go c q = let hd : f x ≡ leaf_of t = cc in let tl : map f (constants xs) ≡ constant_images xs ts = cc in (rw c (ap leaf_tree hd ∙ sym (constant_leaf x t c h)), tl)

map_image : (f : Leaf → Leaf) (ls : List Leaf) (ts : List Tree) → AreDistinct ls → AreImages ls ts → map f (constants ls) ≡ constant_images ls ts → map (image f ls ts) ls ≡ ts
map_image f [] [] d h e = refl
map_image f [] (t ∷ ts) d h e = absurd h
map_image f (x ∷ xs) [] d h e = absurd h
map_image f (x ∷ xs) (t ∷ ts) d h e =
    let first = h.0 in
    let parts = head_image x xs t ts f first.fits e in
    let rest : map (image f (x ∷ xs) (t ∷ ts)) xs ≡ map (image f xs ts) xs = map-equal _ _ xs (λ l i. listed_other x xs t ts f l (λ q. d.0 (subst (λ z. Among xs z) q i))) in
    let below : map (image f xs ts) xs ≡ ts = map_image f xs ts d.1 h.1 parts.1 in
    cc (parts.0, rest, below)

-- constants and their images are of the same sorts
constant_sort : (l : Leaf) (t : Tree) → is_constant l ≡ true → FitsLeaf l t → leaf_sort l ≡ leaf_sort (leaf_of t)
constant_sort (leaf.TyConstant a) t e (b, i) = rw i refl
constant_sort (leaf.ConstConstant a) t e (b, i) = rw i refl
constant_sort (leaf.Variable k n) t e h = cc e
constant_sort (leaf.Region r) t e h = cc e

constant_sorts : (ls : List Leaf) (ts : List Tree) → AreImages ls ts → map leaf_sort (constants ls) ≡ map leaf_sort (constant_images ls ts)
constant_sorts [] [] h = refl
constant_sorts [] (t ∷ ts) h = absurd h
constant_sorts (x ∷ xs) [] h = absurd h
constant_sorts (x ∷ xs) (t ∷ ts) h =
    let rest = constant_sorts xs ts h.1 in
    let first = h.0 in
    elim (either (is_constant x)) [
      | inl c ↦ (let s = constant_sort x t c first.fits in rw c (cc (s, rest)))
      | inr c ↦ rw c rest
    ]

pub among_constants : (ls : List Leaf) (l : Leaf) → Among (constants ls) l → Among ls l
among_constants [] l i = i
among_constants (x ∷ xs) l i = elim (either (is_constant x)) [
  | inl c ↦ go (λ j. among_constants xs l j) (rw c at i)
  | inr c ↦ inr (among_constants xs l (rw c at i))
]
  where
    go : (Among (constants xs) l → Among xs l) → (l ≡ x) ⊎ Among (constants xs) l → (l ≡ x) ⊎ Among xs l
    go f (inl p) = inl p
    go f (inr j) = inr (f j)

pub distinct_constants : (ls : List Leaf) → AreDistinct ls → AreDistinct (constants ls)
distinct_constants [] d = tt
distinct_constants (x ∷ xs) d = elim (either (is_constant x)) [
  | inl c ↦ rw c ((λ i. d.0 (among_constants xs x i)), distinct_constants xs d.1)
  | inr c ↦ rw c (distinct_constants xs d.1)
]

-- the instance
listed_image : (ls : List Leaf) (ts : List Tree) (l : Leaf) → AreImages ls ts → IsImage l (listed ls ts l)
listed_image [] [] l h = record { fits = fits_itself l; formed = (tt, tt); closed = (tt, tt); stays = λ i. refl }
listed_image [] (t ∷ ts) l h = absurd h
listed_image (x ∷ xs) [] l h = absurd h
listed_image (x ∷ xs) (t ∷ ts) l h = elim (tell l x) [
  | inl p ↦ rw (same-yes l x p) (subst (λ z. IsImage z t) (sym p) h.0)
  | inr e ↦ rw e (listed_image xs ts l h.1)
]

type_constant : (m : Leaf) → leaf_sort m ≡ of_constant sort.Ty → FitsLeaf m (leaf_tree m) × ((b : _) × (leaf_tree m ≡ leaf_tree (leaf.TyConstant b)))
type_constant (leaf.TyConstant b) e = (fits_itself (leaf.TyConstant b), (b, refl))
type_constant (leaf.ConstConstant b) e = cc e
type_constant (leaf.Variable k n) e = cc e
type_constant (leaf.Region r) e = cc e

const_constant : (m : Leaf) → leaf_sort m ≡ of_constant sort.Const → FitsLeaf m (leaf_tree m) × ((b : _) × (leaf_tree m ≡ leaf_tree (leaf.ConstConstant b)))
const_constant (leaf.ConstConstant b) e = (fits_itself (leaf.ConstConstant b), (b, refl))
const_constant (leaf.TyConstant b) e = cc e
const_constant (leaf.Variable k n) e = cc e
const_constant (leaf.Region r) e = cc e

module _ (ls : List Leaf) (ts : List Tree) (images : AreImages ls ts) where
  abbrev move : Leaf → Leaf
  move = forward (constants ls) (constant_images ls ts)

  move_sorts : (l : Leaf) → leaf_sort (move l) ≡ leaf_sort l
  move_sorts l = sorts-forward (constants ls) (constant_images ls ts) (constant_sorts ls ts images) l

  abbrev value : Leaf → Tree
  value = image move ls ts

  is_image : (l : Leaf) → IsImage l (value l)
  is_image (leaf.TyConstant a) =
      let f = type_constant (move (leaf.TyConstant a)) (move_sorts (leaf.TyConstant a)) in
      record { fits = f.1; formed = (tt, tt); closed = (tt, tt); stays = λ i. absurd i }
  is_image (leaf.ConstConstant a) =
      let f = const_constant (move (leaf.ConstConstant a)) (move_sorts (leaf.ConstConstant a)) in
      record { fits = f.1; formed = (tt, tt); closed = (tt, tt); stays = λ i. absurd i }
  is_image (leaf.Variable k n) = listed_image ls ts (leaf.Variable k n) images
  is_image (leaf.Region r) = listed_image ls ts (leaf.Region r) images

  one_leaf : (a b : Leaf) → leaf_tree a ≡ leaf_tree b → a ≡ b
  one_leaf a b e = cc e

  move_one : (a b : Leaf) → leaf_tree (move a) ≡ leaf_tree (move b) → a ≡ b
  move_one a b e =
      let p : move a ≡ move b = one_leaf (move a) (move b) e in
      sym (backward-forward (constants ls) (constant_images ls ts) a) ∙ ap (backward (constants ls) (constant_images ls ts)) p ∙ backward-forward (constants ls) (constant_images ls ts) b

  distinct_values : (a b : Leaf) → IsConstant a → IsConstant b → value a ≡ value b → a ≡ b
  distinct_values (leaf.TyConstant a) (leaf.TyConstant b) i j e = move_one (leaf.TyConstant a) (leaf.TyConstant b) e
  distinct_values (leaf.TyConstant a) (leaf.ConstConstant b) i j e = move_one (leaf.TyConstant a) (leaf.ConstConstant b) e
  distinct_values (leaf.ConstConstant a) (leaf.TyConstant b) i j e = move_one (leaf.ConstConstant a) (leaf.TyConstant b) e
  distinct_values (leaf.ConstConstant a) (leaf.ConstConstant b) i j e = move_one (leaf.ConstConstant a) (leaf.ConstConstant b) e
  distinct_values (leaf.Variable k n) b i j e = absurd i
  distinct_values (leaf.Region r) b i j e = absurd i
  distinct_values (leaf.TyConstant a) (leaf.Variable k n) i j e = absurd j
  distinct_values (leaf.TyConstant a) (leaf.Region r) i j e = absurd j
  distinct_values (leaf.ConstConstant a) (leaf.Variable k n) i j e = absurd j
  distinct_values (leaf.ConstConstant a) (leaf.Region r) i j e = absurd j

  -- an instance in which each leaf of the list has its image
  pub imaging : Instance
  imaging =
      record {
        value = value;
        fits = λ l. (let i = is_image l in i.fits);
        formed = λ l. (let i = is_image l in i.formed);
        closed = λ l. (let i = is_image l in i.closed);
        distinct = distinct_values;
        stays = λ r h. (let i = is_image (leaf.Region r) in i.stays h);
      }

pub map-imaging : (ls : List Leaf) (ts : List Tree) (images : AreImages ls ts) → AreDistinct ls → AreDistinct (constant_images ls ts) → map (imaging ls ts images).value ls ≡ ts
unfolding imaging
map-imaging ls ts images d c =
    map_image (move ls ts images) ls ts d images (map-forward (constants ls) (constant_images ls ts) (distinct_constants ls d) c (constant_sorts ls ts images))
