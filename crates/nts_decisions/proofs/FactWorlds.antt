-- A world of a caller's table, with all regions made one, is one of the first table of the query that it asks.
use Rattle.std.proofs.Common.{◌≡◌, inl, inr, ℕ, ◌≤◌, List, [], ◌∷◌, map, Option, Some, None, refl, sym, ap, subst, ◌∙◌}
use Rattle.std.specs.Prelude.{true, slice_get}
use Rattle.nts_model.specs.declared.labels.VariableKind.{VariableKind}
use Rattle.nts_model.specs.declared.labels.VariableKind.TheVariants as kind
use Rattle.nts_model.specs.declared.labels.FreeRegion.TheVariants as region
use Rattle.nts_model.specs.declared.labels.Leaf.{Leaf}
use Rattle.nts_model.specs.declared.labels.Leaf.TheVariants as leaf
use Rattle.nts_model.specs.Terms.Trees.{Tree}
use Rattle.nts_model.specs.Tables.Contents.{Content, Slot, map_slot, universe_of, kind_at}
use Rattle.nts_model.specs.Terms.Placeholders.{CanName, leaf_level_of, leaf_level}
use Rattle.nts_model.specs.Tables.Levels.{NamesAll, term_level}
use Rattle.nts_model.specs.Tables.Resolving.{Knows}
use Rattle.nts_model.specs.Tables.Worlds.{World, inst, Solves, IsValue}
use Rattle.nts_model.specs.Terms.Substitutions.{leaf_tree, IsConstant, Renaming, rename, Occurs}
use Rattle.nts_model.specs.Lists.{Among}
use Rattle.nts_model.specs.Canonical.Inputs.{Input, IsInput, position_kind, originals, canonical_of, OccursIn}
use Rattle.nts_model.specs.Refutation.Containing.{Truth, IsFreeRegion, IsRootValue, IsInputValue, AreInputValues}
use Rattle.nts_model.proofs.Canonical.CanonicalForms.{distinct-originals, originals_are_leaves}
use Rattle.nts_model.proofs.Tables.Solving.{NamesAll-more}
use Rattle.nts_model.proofs.Terms.Listed.{map-map}
use Rattle.nts_theory.specs.Refutation.Refutation.{IsCarrying}
use Rattle.nts_theory.proofs.Refutation.Carriers.{moved, moved_carrying, moved_low, moved_original, instance_by, leaf_named}
use Rattle.nts_theory.proofs.Refutation.Carrying.{names_replaced, value_instance}
use Rattle.nts_theory.proofs.Refutation.Entering.{IsBegun, entered_at}
use Rattle.nts_theory.proofs.Refutation.Freshening.{knows_leaf}
use Rattle.nts_decisions.specs.Facts.{IsAskedAs}
use Rattle.nts_decisions.proofs.BlurredWorlds.{merged, merged_blurred, blurred_world, solves_blurred, region_is_blurred}
use Rattle.nts_decisions.proofs.OneRegion.{HasOneRegion, merged_one, merged_same, names_regions, one_carried}

-- a world of a table in which these terms are these trees, but for regions
pub record MergedWorld (q : Content) (qs ts : List Tree) : Type 0 where
  pub world : World
  pub solves : Solves q world
  pub images : map (λ t. merged (inst world t)) qs ≡ ts

-- in a world with one region the leaves have one
pub leaf_one : (w : World) (l : Leaf) → HasOneRegion (inst (blurred_world w) (leaf_tree l))
leaf_one w (leaf.Variable k n) = merged_one (w.tree n)
leaf_one w (leaf.Region r) = (refl, tt)
leaf_one w (leaf.TyConstant a) = (refl, tt)
leaf_one w (leaf.ConstConstant a) = (refl, tt)

pub all_merged_same : (ts : List Tree) → ((t : Tree) → Among ts t → HasOneRegion t) → map merged ts ≡ ts
all_merged_same [] h = refl
all_merged_same (t ∷ ts) h = cc (merged_same t (h t (inl refl)), all_merged_same ts (λ z i. h z (inr i)))

module _ (c : Content) (w : World) (solves : Solves c w) (i : Input) (from : IsAskedAs c i.environment i.predicate i) where
  pub proper : IsInput i
  proper = let x = from.input in x.proper

  pub original_known : (l : Leaf) → Among (originals i) l → Knows c (leaf_tree l)
  original_known l a = by_place (let b = originals_are_leaves i proper in let z = b.1 l in z.0 a)
    where
      by_place : OccursIn l i → Knows c (leaf_tree l)
      by_place (inl o) = (let k = from.knows in knows_leaf c l i.environment o.1 k.0)
      by_place (inr (inl o)) = (let k = from.knows in knows_leaf c l i.predicate o k.1.0)
      by_place (inr (inr o)) = absurd (let x = from.input in subst (Occurs l) x.hidden o)

  pub low : (l : Leaf) → Among (originals i) l → IsConstant l → CanName c.universe (leaf_level_of l)
  low l a o = by_leaf l (original_known l a) o
    where
      by_leaf : (x : Leaf) → Knows c (leaf_tree x) → IsConstant x → CanName c.universe (leaf_level_of x)
      by_leaf (leaf.TyConstant a) k o = k.0.1
      by_leaf (leaf.ConstConstant a) k o = k.0.1
      by_leaf (leaf.Variable k n) h o = absurd o
      by_leaf (leaf.Region r) k o = absurd o

  -- constants of the input are the query's placeholders, and others are moved out of their way
  abbrev pub moving : Renaming
  moving = moved c.universe (originals i) (distinct-originals i) low

  pub moving_carries : IsCarrying moving
  moving_carries = moved_carrying c.universe (originals i) (distinct-originals i) low

  abbrev pub image : Leaf → Tree
  image l = rename moving (inst (blurred_world w) (leaf_tree l))

  pub image_one : (l : Leaf) → HasOneRegion (image l)
  image_one l = one_carried moving moving_carries (inst (blurred_world w) (leaf_tree l)) (leaf_one w l)

  variable_named : (n : ℕ) (k : VariableKind) → kind_at c n ≡ Some k → NamesAll term_level c.universe (merged (w.tree n))
  variable_named n k e = by_slot (slice_get c.slots n) refl
    where
      by_slot : (o : Option Slot) → slice_get c.slots n ≡ o → NamesAll term_level c.universe (merged (w.tree n))
      by_slot None q = absurd (let z : map_slot (λ x. x.kind) None ≡ Some k = ap (map_slot (λ x. x.kind)) (sym q) ∙ e in cc z)
      by_slot (Some v) q =
          let there : universe_of c n ≡ Some v.universe = ap (map_slot (λ x. x.universe)) q in
          let current = from.current in
          let below : v.universe ≤ c.universe = current.universes n v.universe there in
          let s = (solves_blurred c w solves).nameable in
          NamesAll-more term_level v.universe c.universe (merged (w.tree n)) below (rw there at (s.each n))

  root_value : (n : ℕ) (k : VariableKind) → kind_at c n ≡ Some k → IsRootValue k (rename moving (merged (w.tree n)))
  root_value n k e =
      record {
        value = value_instance (instance_by moving moving_carries) k (merged (w.tree n)) (let s = (solves_blurred c w solves).fitting in s.each n k e);
        named =
            names_replaced (λ l. leaf_tree (moving.to l)) c.universe 0 (λ l h. leaf_named 0 (moving.to l) (moved_low c.universe (originals i) (distinct-originals i) low l h)) (merged (w.tree n))
            (names_regions c.universe (merged (w.tree n)) (merged_one (w.tree n)) (variable_named n k e));
      }

  erased_image : rename moving (leaf_tree (leaf.Region region.Erased)) ≡ leaf_tree (leaf.Region region.Erased)
  erased_image = ap leaf_tree (moving_carries.plain region.Erased tt)

  input_value : (r : ℕ → ℕ) (l : Leaf) → Among (originals i) l → IsInputValue (position_kind r (originals i) l) (image l)
  input_value r (leaf.Variable kind.Ty n) a = (let k = original_known (leaf.Variable kind.Ty n) a in root_value n kind.Ty k.0.0)
  input_value r (leaf.Variable kind.Int n) a = (let k = original_known (leaf.Variable kind.Int n) a in root_value n kind.Int k.0.0)
  input_value r (leaf.Variable kind.Float n) a = (let k = original_known (leaf.Variable kind.Float n) a in root_value n kind.Float k.0.0)
  input_value r (leaf.Variable kind.Const n) a = (let k = original_known (leaf.Variable kind.Const n) a in root_value n kind.Const k.0.0)
  input_value r (leaf.Variable kind.Region n) a =
      let k = original_known (leaf.Variable kind.Region n) a in
      let v : IsValue kind.Region (w.tree n) = (let f = solves.fitting in f.each n kind.Region k.0.0) in
      let e : rename moving (merged (w.tree n)) ≡ leaf_tree (leaf.Region region.Erased) = ap (rename moving) (merged_blurred (w.tree n) v.formed ∙ region_is_blurred (w.tree n) v.fits) ∙ erased_image in
      subst (λ t. IsFreeRegion t × NamesAll leaf_level 0 t) (sym e) ((region.Erased, refl), (tt, tt))
  input_value r (leaf.Region x) a = subst (λ t. IsFreeRegion t × NamesAll leaf_level 0 t) (sym erased_image) ((region.Erased, refl), (tt, tt))
  input_value r (leaf.TyConstant x) a = ap leaf_tree (moved_original c.universe (originals i) (distinct-originals i) low (leaf.TyConstant x) a tt)
  input_value r (leaf.ConstConstant x) a = ap leaf_tree (moved_original c.universe (originals i) (distinct-originals i) low (leaf.ConstConstant x) a tt)

  input_values : (r : ℕ → ℕ) (xs : List Leaf) → ((l : Leaf) → Among xs l → Among (originals i) l) → AreInputValues (map (position_kind r (originals i)) xs) (map image xs)
  input_values r [] h = tt
  input_values r (x ∷ xs) h = (input_value r x (h x (inl refl)), input_values r xs (λ l a. h l (inr a)))

  pub images_one : (xs : List Leaf) (t : Tree) → Among (map image xs) t → HasOneRegion t
  images_one [] t a = absurd a
  images_one (x ∷ xs) t (inl e) = subst HasOneRegion (sym e) (image_one x)
  images_one (x ∷ xs) t (inr a) = images_one xs t a

  -- the values of the input
  abbrev pub asked_trees : List Tree
  asked_trees = map image (originals i)

  pub asked_values : AreInputValues (canonical_of i).kinds asked_trees
  asked_values = input_values i.sub_root (originals i) (λ l a. a)

  pub entered_merged : (q : Content) (qs : List Tree) → IsBegun (canonical_of i) q qs → MergedWorld q qs asked_trees
  entered_merged q qs b =
      let always : Truth = λ x y. true in
      let e = entered_at always (canonical_of i) q qs asked_trees b asked_values in
      record {
        world = e.world;
        solves = (let s = e.solution in s.solves);
        images = sym (map-map merged (inst e.world) qs) ∙ ap (map merged) e.images ∙ all_merged_same asked_trees (images_one (originals i));
      }
