-- A response whose values are the originals themselves is granted in each solution: so applying it is never refused.
use Rattle.std.proofs.Common.{◌≡◌, ℕ, zero, suc, List, [], ◌∷◌, map, get_or, slice_get, Some, refl, ap, ◌∙◌}
use Rattle.nts_model.specs.declared.labels.FreeRegion.TheVariants as region
use Rattle.nts_model.specs.declared.labels.Leaf.TheVariants as leaf
use Rattle.nts_model.specs.declared.labels.UintTy.TheVariants as unsigned
use Rattle.nts_model.specs.declared.labels.FloatTy.TheVariants as floating
use Rattle.nts_model.specs.declared.labels.TyHead.TheVariants as ty
use Rattle.nts_model.specs.declared.labels.ConstHead.TheVariants as konst
use Rattle.nts_model.specs.declared.labels.Label.TheVariants as label
use Rattle.nts_model.specs.Terms.Trees.{Tree, empty, node}
use Rattle.nts_model.specs.Tables.Contents.{Content}
use Rattle.nts_model.specs.Tables.Resolving.{IsSound}
use Rattle.nts_model.specs.Terms.Regions.{of_free}
use Rattle.nts_model.specs.Tables.Levels.{term_level}
use Rattle.nts_model.specs.Tables.RegionClasses.{reading}
use Rattle.nts_model.specs.Tables.Solvable.{IsSolvable}
use Rattle.nts_model.specs.Tables.Worlds.{World, inst}
use Rattle.nts_model.specs.Terms.Substitutions.{leaf_tree}
use Rattle.nts_model.specs.Canonical.Inputs.{PositionKind, type_variable, integer_variable, float_variable, const_variable, region_variable, placeholder}
use Rattle.nts_model.specs.Answers.Responses.{Response, placeholder_at, IsImageOf, AreImagesOf, IsNamedBy, AreNamedBy, read_in, AreEqualIn, RefusesResponse}
use Rattle.nts_model.proofs.Tables.Solvable.{reading-solves}
use Rattle.nts_decisions.specs.Queries.{AreOwn}

-- a tree for each kind of position, where an original is itself
abbrev image_of : World → ℕ → List Tree → PositionKind → Tree
image_of w p os (type_variable u r) = node (label.Ty ty.Error) empty
image_of w p os integer_variable = node (label.Ty (ty.Uint unsigned.U8)) empty
image_of w p os float_variable = node (label.Ty (ty.Float floating.F32)) empty
image_of w p os (const_variable u) = node (label.Const konst.Error) empty
image_of w p os (region_variable u) = leaf_tree (leaf.Region region.Erased)
image_of w p os (placeholder s u n) = inst w (placeholder_at p os s u n)

is_image : (w : World) (p : ℕ) (os : List Tree) (k : PositionKind) → IsImageOf w p os k (image_of w p os k)
is_image w p os (type_variable u r) = record { fits = refl; closed = (tt, tt); formed = (tt, tt) }
is_image w p os integer_variable = record { fits = refl; closed = (tt, tt); formed = (tt, tt) }
is_image w p os float_variable = record { fits = refl; closed = (tt, tt); formed = (tt, tt) }
is_image w p os (const_variable u) = record { fits = refl; closed = (tt, tt); formed = (tt, tt) }
is_image w p os (region_variable u) = record { fits = (of_free region.Erased, refl); closed = (tt, tt); formed = (tt, tt) }
is_image w p os (placeholder s u n) = refl

is_named : (w : World) (p : ℕ) (os : List Tree) (k : PositionKind) → IsNamedBy term_level p k (image_of w p os k)
is_named w p os (type_variable u r) = (tt, tt)
is_named w p os integer_variable = (tt, tt)
is_named w p os float_variable = (tt, tt)
is_named w p os (const_variable u) = (tt, tt)
is_named w p os (region_variable u) = (tt, tt)
is_named w p os (placeholder s u n) = tt

are_images : (w : World) (p : ℕ) (os : List Tree) (ks : List PositionKind) → AreImagesOf w p os ks (map (image_of w p os) ks)
are_images w p os [] = tt
are_images w p os (k ∷ ks) = (is_image w p os k, are_images w p os ks)

are_named : (w : World) (p : ℕ) (os : List Tree) (ks : List PositionKind) → AreNamedBy term_level p ks (map (image_of w p os) ks)
are_named w p os [] = tt
are_named w p os (k ∷ ks) = (is_named w p os k, are_named w p os ks)

image_at : (w : World) (p : ℕ) (os : List Tree) (ks : List PositionKind) (b : ℕ) (k : PositionKind) → slice_get ks b ≡ Some k → get_or (map (image_of w p os) ks) b empty ≡ image_of w p os k
image_at w p os [] b k e = absurd (cc e)
image_at w p os (x ∷ ks) zero k e = ap (image_of w p os) (cc e)
image_at w p os (x ∷ ks) (suc b) k e = image_at w p os ks b k e

-- the tail of a list, from n on
abbrev IsFrom : List Tree → ℕ → List Tree → Type 0
IsFrom all n [] = Unit {0}
IsFrom all n (o ∷ os) = (get_or all n empty ≡ o) × IsFrom all (suc n) os

are_equal : (w : World) (p : ℕ) (all : List Tree) (ks : List PositionKind) (n : ℕ) (vs os : List Tree) → AreOwn ks n vs os → IsFrom all n os → AreEqualIn w (map (image_of w p all) ks) vs os
are_equal w p all ks n [] [] h f = tt
are_equal w p all ks n [] (o ∷ os) h f = absurd h
are_equal w p all ks n (v ∷ vs) [] h f = absurd h
are_equal w p all ks n (v ∷ vs) (o ∷ os) h f = (
  let x = h.0 in
      ap (read_in w (map (image_of w p all) ks)) x.is ∙ image_at w p all ks x.at (placeholder x.sort 0 n) x.kind ∙ ap (inst w) f.0,
  are_equal w p all ks (suc n) vs os h.1 f.1,
)

from_later : (o : Tree) (all : List Tree) (n : ℕ) (os : List Tree) → IsFrom all n os → IsFrom (o ∷ all) (suc n) os
from_later o all n [] f = tt
from_later o all n (x ∷ os) f = (f.0, from_later o all (suc n) os f.1)

from_first : (os : List Tree) → IsFrom os 0 os
from_first [] = tt
from_first (o ∷ os) = (refl, from_later o os 0 os (from_first os))

pub own_granted : (c : Content) (os : List Tree) (r : Response) → IsSound c → IsSolvable c → AreOwn r.kinds 0 (let x = r.findings in x.values) os → RefusesResponse c os r → ⊥
own_granted c os r sound solvable own refuses =
    let w : World = reading c in
    let x = r.findings in
    refuses.none w (map (image_of w c.universe os) r.kinds) (reading-solves c sound solvable) (are_images w c.universe os r.kinds) (are_named w c.universe os r.kinds)
    (are_equal w c.universe os r.kinds 0 x.values os own (from_first os))
