-- Terms over positions of given sorts, with values in place of the positions.
use Rattle.std.proofs.Common.{◌≡◌, ◌⊎◌, inl, inr, ℕ, zero, suc, ◌<◌, List, [], ◌∷◌, map, length, get_or, Option, Some, None, refl, sym, ap, ◌∙◌, arith}
use Rattle.std.specs.Prelude.{slice_get}
use Rattle.nts_model.specs.declared.labels.Sort.TheVariants as sort
use Rattle.nts_model.specs.declared.labels.VariableKind.TheVariants as kind
use Rattle.nts_model.specs.declared.labels.FreeRegion.TheVariants as region
use Rattle.nts_model.specs.declared.labels.BoundVarIndexKind.TheVariants as index
use Rattle.nts_model.specs.declared.labels.ListHead.TheVariants as list
use Rattle.nts_model.specs.declared.labels.Leaf.{Leaf}
use Rattle.nts_model.specs.declared.labels.Leaf.TheVariants as leaf
use Rattle.nts_model.specs.declared.labels.Label.{Label}
use Rattle.nts_model.specs.declared.labels.Label.TheVariants as label
use Rattle.nts_model.specs.Terms.Trees.{Tree, empty, more, node, kind_of, of_sort, kind_of_label, IsFormed, IsClosed, variable_of}
use Rattle.nts_model.specs.Tables.Contents.{Content}
use Rattle.nts_model.specs.Terms.Placeholders.{CanName, leaf_level}
use Rattle.nts_model.specs.Terms.Regions.{IsRegion, of_variable, of_free}
use Rattle.nts_model.specs.Tables.Resolving.{KnowsVariable, KnowsLeaves}
use Rattle.nts_model.specs.Terms.Substitutions.{Occurs, position_of}
use Rattle.nts_model.specs.Derivations.Handlers.{NamesAt, NamesFresh, IsOfSort, IsFixed}
use Rattle.nts_model.specs.Searching.Driving.{sort_at}
use Rattle.nts_store.specs.Filled.{HasValue, HasValues}
use Rattle.nts_canonical.specs.declared.types.CanonicalVarKind.{CanonicalVarKind}
use Rattle.nts_canonical.specs.Forms.{kind_of_var}
use Rattle.nts_response.specs.Applied.{PositionsHaveSorts}

-- a label that is no leaf, or a region that stays itself, is known to each table
leaf_variable : (c : Content) (l : Label) → ((x : Leaf) → label.Leaf x ≡ l → IsFixed x) → KnowsVariable c (variable_of l)
leaf_variable c (label.Leaf (leaf.Variable k n)) h = absurd (h (leaf.Variable k n) refl)
leaf_variable c (label.Leaf (leaf.Region r)) h = tt
leaf_variable c (label.Leaf (leaf.TyConstant k)) h = tt
leaf_variable c (label.Leaf (leaf.ConstConstant k)) h = tt
leaf_variable c (label.Bound s i n) h = tt
leaf_variable c (label.Ty t) h = tt
leaf_variable c (label.Const k) h = tt
leaf_variable c (label.Clause k) h = tt
leaf_variable c (label.Predicate p) h = tt
leaf_variable c (label.List k) h = tt

leaf_named : (u : ℕ) (l : Label) → ((x : Leaf) → label.Leaf x ≡ l → IsFixed x) → CanName u (leaf_level l)
leaf_named u (label.Leaf (leaf.Variable k n)) h = absurd (h (leaf.Variable k n) refl)
leaf_named u (label.Leaf (leaf.Region region.Static)) h = tt
leaf_named u (label.Leaf (leaf.Region region.Erased)) h = tt
leaf_named u (label.Leaf (leaf.Region region.Error)) h = tt
leaf_named u (label.Leaf (leaf.Region (region.EarlyParam n))) h = absurd (h (leaf.Region (region.EarlyParam n)) refl)
leaf_named u (label.Leaf (leaf.Region (region.LateParam n))) h = absurd (h (leaf.Region (region.LateParam n)) refl)
leaf_named u (label.Leaf (leaf.Region (region.Placeholder v n))) h = absurd (h (leaf.Region (region.Placeholder v n)) refl)
leaf_named u (label.Leaf (leaf.TyConstant k)) h = absurd (h (leaf.TyConstant k) refl)
leaf_named u (label.Leaf (leaf.ConstConstant k)) h = absurd (h (leaf.ConstConstant k) refl)
leaf_named u (label.Bound s i n) h = tt
leaf_named u (label.Ty t) h = tt
leaf_named u (label.Const k) h = tt
leaf_named u (label.Clause k) h = tt
leaf_named u (label.Predicate p) h = tt
leaf_named u (label.List k) h = tt

pub fixed_known : (c : Content) (t : Tree) → ((l : Leaf) → Occurs l t → IsFixed l) → KnowsLeaves c t
fixed_known c empty h = tt
fixed_known c (more a b) h = (fixed_known c a (λ l o. h l (inl o)), fixed_known c b (λ l o. h l (inr o)))
fixed_known c (node l t) h = (
  (leaf_variable c l (λ x e. h x (inl e)), leaf_named c.universe l (λ x e. h x (inl e))),
  fixed_known c t (λ x o. h x (inr o)),
)

-- values of these sorts serve every position
value_there : (ks : List CanonicalVarKind) (ts : List Tree) (i : ℕ) (l : Label) → PositionsHaveSorts (map kind_of_var ks) ts → IsOfSort (slice_get (map (λ k. sort_at (kind_of_var k)) ks) i) (kind_of_label l) → (i < length ts) × (kind_of (get_or ts i empty) ≡ Some (kind_of_label l))
value_there [] ts i l h k = absurd k
value_there (s ∷ ss) [] i l h k = absurd h
value_there (s ∷ ss) (t ∷ ts) zero l h k = (omega arith, h.0 ∙ ap Some (sym k))
value_there (s ∷ ss) (t ∷ ts) (suc i) l h k = let w = value_there ss ts i l h.1 k in (omega (arith, w.0), w.1)

has_value : (ks : List CanonicalVarKind) (ts : List Tree) (o : Option ℕ) (l : Label) → PositionsHaveSorts (map kind_of_var ks) ts → NamesAt (map (λ k. sort_at (kind_of_var k)) ks) o l → HasValue o ts l
has_value ks ts None l h k = tt
has_value ks ts (Some i) l h k = value_there ks ts i l h k

pub has_values : (ks : List CanonicalVarKind) (ts : List Tree) (t : Tree) → PositionsHaveSorts (map kind_of_var ks) ts → NamesFresh (map (λ k. sort_at (kind_of_var k)) ks) t → HasValues ts t
has_values ks ts empty h k = tt
has_values ks ts (more a b) h k = (has_values ks ts a h k.0, has_values ks ts b h k.1)
has_values ks ts (node l c) h k = (has_value ks ts (position_of l) l h k.0, has_values ks ts c h k.1)

-- a closed region that is no position is free, or a variable
pub closed_region : (t : Tree) → kind_of t ≡ Some (of_sort sort.Region) → IsFormed t → IsClosed t → ((b : ℕ) × (t ≡ node (label.Bound sort.Region index.Canonical b) empty)) ⊎ IsRegion t
closed_region empty k f c = cc
closed_region (more a b) k f c = cc
closed_region (node (label.Leaf (leaf.Variable kind.Region n)) empty) k f c = inr (of_variable n, refl)
closed_region (node (label.Leaf (leaf.Variable kind.Region n)) (more a b)) k f c = absurd f.0
closed_region (node (label.Leaf (leaf.Variable kind.Region n)) (node l d)) k f c = absurd f.0
closed_region (node (label.Leaf (leaf.Variable kind.Ty n)) d) k f c = cc
closed_region (node (label.Leaf (leaf.Variable kind.Int n)) d) k f c = cc
closed_region (node (label.Leaf (leaf.Variable kind.Float n)) d) k f c = cc
closed_region (node (label.Leaf (leaf.Variable kind.Const n)) d) k f c = cc
closed_region (node (label.Leaf (leaf.Region r)) empty) k f c = inr (of_free r, refl)
closed_region (node (label.Leaf (leaf.Region r)) (more a b)) k f c = absurd f.0
closed_region (node (label.Leaf (leaf.Region r)) (node l d)) k f c = absurd f.0
closed_region (node (label.Leaf (leaf.TyConstant x)) d) k f c = cc
closed_region (node (label.Leaf (leaf.ConstConstant x)) d) k f c = cc
closed_region (node (label.Bound sort.Region (index.Bound e) n) d) k f c = absurd (omega (arith, c.0))
closed_region (node (label.Bound sort.Region index.Canonical n) empty) k f c = inl (n, refl)
closed_region (node (label.Bound sort.Region index.Canonical n) (more a b)) k f c = absurd f.0
closed_region (node (label.Bound sort.Region index.Canonical n) (node l d)) k f c = absurd f.0
closed_region (node (label.Bound sort.Ty i n) d) k f c = cc
closed_region (node (label.Bound sort.Const i n) d) k f c = cc
closed_region (node (label.Ty h) d) k f c = cc
closed_region (node (label.Const h) d) k f c = cc
closed_region (node (label.Clause h) d) k f c = cc
closed_region (node (label.Predicate h) d) k f c = cc
closed_region (node (label.List list.Args) d) k f c = cc
closed_region (node (label.List list.Env) d) k f c = cc
closed_region (node (label.List list.Sorts) d) k f c = cc
closed_region (node (label.List (list.Sort s)) d) k f c = cc
closed_region (node (label.List list.Binder) d) k f c = cc
