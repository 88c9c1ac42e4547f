-- What stands for the positions of a response makes an instance: leaves have fitting images, and constants distinct ones.
use Rattle.std.proofs.Common.{◌≡◌, inl, inr, ℕ, zero, suc, ◌+◌, true, false, List, [], ◌∷◌, map, get_or, refl, sym, ap, ◌∙◌, arith, subst}
use Rattle.nts_model.specs.declared.labels.Sort.TheVariants as sort
use Rattle.nts_model.specs.declared.labels.VariableKind.{VariableKind}
use Rattle.nts_model.specs.declared.labels.FreeRegion.{FreeRegion}
use Rattle.nts_model.specs.declared.labels.FreeRegion.TheVariants as region
use Rattle.nts_model.specs.declared.labels.Constant.{Constant}
use Rattle.nts_model.specs.declared.labels.Constant.TheVariants as constant
use Rattle.nts_model.specs.declared.labels.Leaf.{Leaf}
use Rattle.nts_model.specs.declared.labels.Leaf.TheVariants as leaf
use Rattle.nts_model.specs.declared.labels.Label.TheVariants as label
use Rattle.nts_model.specs.Terms.Trees.{Tree, empty, node, IsFormed, IsClosed}
use Rattle.nts_model.specs.Tables.Contents.{Content}
use Rattle.nts_model.specs.Tables.Resolving.{deeply_resolved, IsSound}
use Rattle.nts_model.specs.Tables.Levels.{NamesAll, term_level}
use Rattle.nts_model.specs.Terms.Regions.{RegionName, of_variable, of_free, region_tree, IsRegion}
use Rattle.nts_model.specs.Terms.Substitutions.{leaf_tree}
use Rattle.nts_model.specs.Lists.{Among}
use Rattle.nts_model.specs.Derivations.Proving.{HoldsTerms}
use Rattle.nts_model.specs.Derivations.Handlers.{IsFixed}
use Rattle.nts_model.specs.Canonical.Numbered.{AreDistinct}
use Rattle.nts_model.specs.Answers.Responses.{is_fixed, placeholder_at, IsTermFor, IsLeafFor, IsConstantFor}
use Rattle.nts_model.proofs.Tables.Resolved.{deeply_resolved-node, deeply_resolved-empty}
use Rattle.nts_model.proofs.Tables.ResolvedTerms.{IsFormed-deeply_resolved, IsClosed-deeply_resolved}
use Rattle.nts_model.proofs.Tables.Alike.{IsRegion-deeply_resolved}
use Rattle.nts_model.proofs.Terms.Listed.{either}
use Rattle.nts_model.proofs.Terms.Identified.{named_tree}
use Rattle.nts_model.proofs.Terms.Imaging.{IsImage, is_constant, leaf_of, constants}

pub resolved_type : (d : Content) (a : Constant) → deeply_resolved d (leaf_tree (leaf.TyConstant a)) ≡ leaf_tree (leaf.TyConstant a)
resolved_type d a = deeply_resolved-node d (label.Leaf (leaf.TyConstant a)) empty refl ∙ ap (node (label.Leaf (leaf.TyConstant a))) (deeply_resolved-empty d)

pub resolved_const : (d : Content) (a : Constant) → deeply_resolved d (leaf_tree (leaf.ConstConstant a)) ≡ leaf_tree (leaf.ConstConstant a)
resolved_const d a = deeply_resolved-node d (label.Leaf (leaf.ConstConstant a)) empty refl ∙ ap (node (label.Leaf (leaf.ConstConstant a))) (deeply_resolved-empty d)

region_term : (t : Tree) → IsRegion t → IsFormed t × IsClosed t
region_term t (x, e) = rw (named_tree t x e) (go x)
  where
    go : (x : RegionName) → IsFormed (region_tree x) × IsClosed (region_tree x)
    go (of_variable n) = ((tt, tt), (tt, tt))
    go (of_free r) = ((tt, tt), (tt, tt))

not_fixed : (r : FreeRegion) → is_fixed (leaf.Region r) ≡ false → IsFixed (leaf.Region r) → ⊥
not_fixed region.Static e h = cc e
not_fixed region.Erased e h = cc e
not_fixed region.Error e h = cc e
not_fixed (region.Placeholder u n) e h = h
not_fixed (region.EarlyParam n) e h = h
not_fixed (region.LateParam n) e h = h

module _ (d : Content) (s : IsSound d) (h : HoldsTerms d) (p : ℕ) (os : List Tree) where
  pub variable_image : (k : VariableKind) (n : ℕ) (t : Tree) → IsTermFor d k t → IsImage (leaf.Variable k n) (deeply_resolved d t)
  variable_image k n t f =
      record { fits = f.fits; formed = IsFormed-deeply_resolved d t s h f.knows f.formed; closed = IsClosed-deeply_resolved d t h f.closed; stays = λ i. absurd i }

  pub region_image : (r : FreeRegion) (t : Tree) → is_fixed (leaf.Region r) ≡ false → IsRegion t → IsImage (leaf.Region r) (deeply_resolved d t)
  region_image r t e i =
      let j : IsRegion (deeply_resolved d t) = IsRegion-deeply_resolved d t i in
      let parts = region_term (deeply_resolved d t) j in
      record { fits = j; formed = parts.0; closed = parts.1; stays = λ x. absurd (not_fixed r e x) }

  pub type_image : (a b : Constant) (t : Tree) → t ≡ leaf_tree (leaf.TyConstant b) → IsImage (leaf.TyConstant a) (deeply_resolved d t)
  type_image a b t e = let is : deeply_resolved d t ≡ leaf_tree (leaf.TyConstant b) = ap (deeply_resolved d) e ∙ resolved_type d b in
      rw is (record { fits = (b, refl); formed = (tt, tt); closed = (tt, tt); stays = λ x. absurd x })

  pub const_image : (a b : Constant) (t : Tree) → t ≡ leaf_tree (leaf.ConstConstant b) → IsImage (leaf.ConstConstant a) (deeply_resolved d t)
  const_image a b t e = let is : deeply_resolved d t ≡ leaf_tree (leaf.ConstConstant b) = ap (deeply_resolved d) e ∙ resolved_const d b in
      rw is (record { fits = (b, refl); formed = (tt, tt); closed = (tt, tt); stays = λ x. absurd x })

  -- the image of a constant
  abbrev pub constant_at : Leaf → Leaf
  constant_at (leaf.TyConstant (constant.Placeholder u n)) = leaf_of (placeholder_at p os sort.Ty u n)
  constant_at (leaf.ConstConstant (constant.Placeholder u n)) = leaf_of (placeholder_at p os sort.Const u n)
  constant_at l = l

-- images of distinct leaves, where the map tells them apart
among_image : (f : Leaf → Leaf) (xs : List Leaf) (y : Leaf) → Among (map f xs) y → (x : Leaf) × Among xs x × (y ≡ f x)
among_image f [] y i = absurd i
among_image f (x ∷ xs) y (inl e) = (x, inl refl, e)
among_image f (x ∷ xs) y (inr i) = let (z, j, e) = among_image f xs y i in (z, inr j, e)

pub distinct_images : (f : Leaf → Leaf) (xs : List Leaf) → AreDistinct xs → ((a b : Leaf) → Among xs a → Among xs b → f a ≡ f b → a ≡ b) → AreDistinct (map f xs)
distinct_images f [] d t = tt
distinct_images f (x ∷ xs) d t = (
  (λ i. let (y, j, e) = among_image f xs (f x) i in d.0 (subst (λ z. Among xs z) (sym (t x y (inl refl) (inr j) e)) j)),
  distinct_images f xs d.1 (λ a b i j. t a b (inr i) (inr j)),
)

pub constants_are : (ls : List Leaf) (l : Leaf) → Among (constants ls) l → is_constant l ≡ true
constants_are [] l i = absurd i
constants_are (x ∷ xs) l i = elim (either (is_constant x)) [
  | inl e ↦ elim (rw e at i) [ inl q ↦ rw q e | inr j ↦ constants_are xs l j ]
  | inr e ↦ constants_are xs l (rw e at i)
]

-- the originals by their places
at_place : (os : List Leaf) (n : ℕ) (l : Leaf) → get_or (map leaf_tree os) n empty ≡ leaf_tree l → Among os l
at_place [] n l e = cc e
at_place (o ∷ os) zero l e = inl (let z : leaf_tree o ≡ leaf_tree l = e in cc z)
at_place (o ∷ os) (suc n) l e = inr (at_place os n l e)

one_place : (os : List Leaf) (n m : ℕ) (l : Leaf) → AreDistinct os → get_or (map leaf_tree os) n empty ≡ leaf_tree l → get_or (map leaf_tree os) m empty ≡ leaf_tree l → n ≡ m
one_place [] n m l d e f = cc e
one_place (o ∷ os) zero zero l d e f = refl
one_place (o ∷ os) zero (suc m) l d e f = absurd (d.0 (at_place os m o (f ∙ sym e)))
one_place (o ∷ os) (suc n) zero l d e f = absurd (d.0 (at_place os n o (e ∙ sym f)))
one_place (o ∷ os) (suc n) (suc m) l d e f = ap suc (one_place os n m l d.1 e f)

module _ (d : Content) (s : IsSound d) (h : HoldsTerms d) (p : ℕ) (os : List Leaf) (distinct : AreDistinct os) (named : (l : Leaf) → Among os l → NamesAll term_level p (leaf_tree l)) where
  abbrev trees : List Tree
  trees = map leaf_tree os

  abbrev to : Leaf → Leaf
  to = constant_at d s h p trees

  -- an original constant is of a universe up to p
  not_above : (u n v m : ℕ) (a : Constant) → get_or trees n empty ≡ leaf_tree (leaf.TyConstant a) → leaf.TyConstant a ≡ leaf.TyConstant (constant.Placeholder (p + suc v) m) → ⊥
  not_above u n v m a i e =
      let k : get_or trees n empty ≡ leaf_tree (leaf.TyConstant (constant.Placeholder (p + suc v) m)) = i ∙ ap leaf_tree e in
      let low = named (leaf.TyConstant (constant.Placeholder (p + suc v) m)) (at_place os n _ k) in
      omega (arith, low.0)

  not_above_const : (n v m : ℕ) (a : Constant) → get_or trees n empty ≡ leaf_tree (leaf.ConstConstant a) → leaf.ConstConstant a ≡ leaf.ConstConstant (constant.Placeholder (p + suc v) m) → ⊥
  not_above_const n v m a i e =
      let k : get_or trees n empty ≡ leaf_tree (leaf.ConstConstant (constant.Placeholder (p + suc v) m)) = i ∙ ap leaf_tree e in
      let low = named (leaf.ConstConstant (constant.Placeholder (p + suc v) m)) (at_place os n _ k) in
      omega (arith, low.0)

  type_at : (a : Constant) → IsConstantFor trees leaf.TyConstant a → (b : Constant) × (to (leaf.TyConstant a) ≡ leaf.TyConstant b)
  type_at (constant.Placeholder zero n) i = (i.0, ap leaf_of i.1)
  type_at (constant.Placeholder (suc u) n) i = (constant.Placeholder (p + suc u) n, refl)
  type_at (constant.Param n) i = absurd i

  const_at : (a : Constant) → IsConstantFor trees leaf.ConstConstant a → (b : Constant) × (to (leaf.ConstConstant a) ≡ leaf.ConstConstant b)
  const_at (constant.Placeholder zero n) i = (i.0, ap leaf_of i.1)
  const_at (constant.Placeholder (suc u) n) i = (constant.Placeholder (p + suc u) n, refl)
  const_at (constant.Param n) i = absurd i

  one_type : (a b : Constant) → IsConstantFor trees leaf.TyConstant a → IsConstantFor trees leaf.TyConstant b → to (leaf.TyConstant a) ≡ to (leaf.TyConstant b) → a ≡ b
  one_type (constant.Placeholder zero n) (constant.Placeholder zero m) i j e =
      let x : leaf.TyConstant i.0 ≡ leaf.TyConstant j.0 = sym (ap leaf_of i.1) ∙ e ∙ ap leaf_of j.1 in
      ap (constant.Placeholder 0) (one_place os n m (leaf.TyConstant j.0) distinct (i.1 ∙ ap leaf_tree x) j.1)
  one_type (constant.Placeholder zero n) (constant.Placeholder (suc v) m) i j e = absurd (not_above 0 n v m i.0 i.1 (sym (ap leaf_of i.1) ∙ e))
  one_type (constant.Placeholder (suc u) n) (constant.Placeholder zero m) i j e = absurd (not_above 0 m u n j.0 j.1 (sym (ap leaf_of j.1) ∙ sym e))
  one_type (constant.Placeholder (suc u) n) (constant.Placeholder (suc v) m) i j e =
      let x : p + suc u ≡ p + suc v = cc e in
      let y : n ≡ m = cc e in
      let z : suc u ≡ suc v = omega (arith, x) in cc (z, y)
  one_type (constant.Param n) b i j e = absurd i
  one_type (constant.Placeholder zero n) (constant.Param m) i j e = absurd j
  one_type (constant.Placeholder (suc u) n) (constant.Param m) i j e = absurd j

  one_const : (a b : Constant) → IsConstantFor trees leaf.ConstConstant a → IsConstantFor trees leaf.ConstConstant b → to (leaf.ConstConstant a) ≡ to (leaf.ConstConstant b) → a ≡ b
  one_const (constant.Placeholder zero n) (constant.Placeholder zero m) i j e =
      let x : leaf.ConstConstant i.0 ≡ leaf.ConstConstant j.0 = sym (ap leaf_of i.1) ∙ e ∙ ap leaf_of j.1 in
      ap (constant.Placeholder 0) (one_place os n m (leaf.ConstConstant j.0) distinct (i.1 ∙ ap leaf_tree x) j.1)
  one_const (constant.Placeholder zero n) (constant.Placeholder (suc v) m) i j e = absurd (not_above_const n v m i.0 i.1 (sym (ap leaf_of i.1) ∙ e))
  one_const (constant.Placeholder (suc u) n) (constant.Placeholder zero m) i j e = absurd (not_above_const m u n j.0 j.1 (sym (ap leaf_of j.1) ∙ sym e))
  one_const (constant.Placeholder (suc u) n) (constant.Placeholder (suc v) m) i j e =
      let x : p + suc u ≡ p + suc v = cc e in
      let y : n ≡ m = cc e in
      let z : suc u ≡ suc v = omega (arith, x) in cc (z, y)
  one_const (constant.Param n) b i j e = absurd i
  one_const (constant.Placeholder zero n) (constant.Param m) i j e = absurd j
  one_const (constant.Placeholder (suc u) n) (constant.Param m) i j e = absurd j

  apart : (a b : Constant) → leaf.TyConstant a ≡ leaf.ConstConstant b → ⊥
  apart a b e = cc e

  pub one_constant : (a b : Leaf) → is_constant a ≡ true → is_constant b ≡ true → IsLeafFor trees a → IsLeafFor trees b → to a ≡ to b → a ≡ b
  one_constant (leaf.TyConstant a) (leaf.TyConstant b) x y i j e = ap leaf.TyConstant (one_type a b i j e)
  one_constant (leaf.ConstConstant a) (leaf.ConstConstant b) x y i j e = ap leaf.ConstConstant (one_const a b i j e)
  one_constant (leaf.TyConstant a) (leaf.ConstConstant b) x y i j e =
      let q = type_at a i in
      let r = const_at b j in
      absurd (apart q.0 r.0 (sym q.1 ∙ e ∙ r.1))
  one_constant (leaf.ConstConstant a) (leaf.TyConstant b) x y i j e =
      let q = const_at a i in
      let r = type_at b j in
      absurd (apart r.0 q.0 (sym r.1 ∙ sym e ∙ q.1))
  one_constant (leaf.Variable k n) b x y i j e = cc x
  one_constant (leaf.Region r) b x y i j e = cc x
  one_constant (leaf.TyConstant a) (leaf.Variable k n) x y i j e = cc y
  one_constant (leaf.TyConstant a) (leaf.Region r) x y i j e = cc y
  one_constant (leaf.ConstConstant a) (leaf.Variable k n) x y i j e = cc y
  one_constant (leaf.ConstConstant a) (leaf.Region r) x y i j e = cc y
