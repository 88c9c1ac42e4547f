-- What was chosen for positions of regions are regions, and so are filled sides of constraints.
use Rattle.std.proofs.Common.{◌≡◌, ⊎_elim, inl, inr, ℕ, zero, suc, List, [], ◌∷◌, map, get_or, Some, refl, sym, ap, subst, ◌∙◌}
use Rattle.std.specs.Prelude.{slice_get}
use Rattle.nts_model.specs.declared.labels.Sort.TheVariants as sort
use Rattle.nts_model.specs.declared.labels.VariableKind.{VariableKind}
use Rattle.nts_model.specs.declared.labels.VariableKind.TheVariants as kind
use Rattle.nts_model.specs.declared.labels.Relation.{Relation}
use Rattle.nts_model.specs.declared.labels.Relation.TheVariants as relation
use Rattle.nts_model.specs.declared.labels.BoundVarIndexKind.TheVariants as index
use Rattle.nts_model.specs.declared.labels.FreeRegion.TheVariants as region
use Rattle.nts_model.specs.declared.labels.Label.TheVariants as label
use Rattle.nts_model.specs.Terms.Trees.{Tree, empty, node, kind_of, of_sort, NodeKind, FitsPlace, IsFormed, IsClosed}
use Rattle.nts_model.specs.Tables.Contents.{Content}
use Rattle.nts_model.specs.Terms.Regions.{IsRegion, RegionName, of_variable, of_free, region_tree}
use Rattle.nts_model.specs.Tables.Resolving.{Knows}
use Rattle.nts_model.specs.Terms.Substitutions.{filled}
use Rattle.nts_model.specs.Derivations.Handlers.{NamesFresh, IsOfSort}
use Rattle.nts_model.specs.Canonical.Inputs.{PositionKind, type_variable, integer_variable, float_variable, const_variable, region_variable, placeholder}
use Rattle.nts_model.specs.Searching.Driving.{sort_at}
use Rattle.nts_model.specs.Answers.Applying.{ChoosesVariable, Chooses, ChoosesAll}
use Rattle.nts_theory.proofs.Responses.Answering.{AllTrees}
use Rattle.nts_model.proofs.Terms.Identified.{named_tree}
use Rattle.nts_canonical.specs.declared.types.CanonicalVarKind.{CanonicalVarKind}
use Rattle.nts_canonical.specs.Forms.{kind_of_var}
use Rattle.nts_store.specs.Filled.{HasValues, kind_of-filled}
use Rattle.nts_response.specs.Applied.{NamesOriginal}
use Rattle.nts_response.specs.Applicable.{left_place}
use Rattle.nts_response.specs.Recorded.{IsLeftSide}
use Rattle.nts_applying.proofs.Over.{closed_region}

-- a closed term of a table
pub record IsClosedTerm (c : Content) (t : Tree) : Type 0 where
  pub knows : Knows c t
  pub formed : IsFormed t
  pub closed : IsClosed t

term_region : (c : Content) (t : Tree) → kind_of t ≡ Some (of_sort sort.Region) → IsClosedTerm c t → IsRegion t
term_region c t k h = ⊎_elim
    (λ (p : (b : ℕ) × (t ≡ node (label.Bound sort.Region index.Canonical b) empty)). absurd (none p.0 (subst (Knows c) p.1 h.knows)))
    (λ (r : IsRegion t). r)
    (closed_region t k h.formed h.closed)
  where
    none : (b : ℕ) → Knows c (node (label.Bound sort.Region index.Canonical b) empty) → ⊥
    none b q = cc (q.0.2)

original_at : (P : Tree → Type 0) (os : List Tree) (n : ℕ) (k : NodeKind) → AllTrees P os → kind_of (get_or os n empty) ≡ Some k → P (get_or os n empty)
original_at P [] n k h e = cc
original_at P (o ∷ os) zero k h e = h.0
original_at P (o ∷ os) (suc n) k h e = original_at P os n k h.1 e

-- the trees at positions of regions are regions
abbrev pub AreRegionsAt : List PositionKind → List Tree → Type 0
AreRegionsAt [] [] = Unit {0}
AreRegionsAt (k ∷ ks) (t ∷ ts) = (sort_at k ≡ sort.Region → IsRegion t) × AreRegionsAt ks ts
AreRegionsAt ks ts = ⊥

abbrev pub NameOriginals : List Tree → List PositionKind → Type 0
NameOriginals os [] = Unit {0}
NameOriginals os (k ∷ ks) = NamesOriginal os k × NameOriginals os ks

module _ (c : Content) (values os : List Tree) (terms : AllTrees (IsClosedTerm c) os) where
  region_chosen : (b : ℕ) (k : PositionKind) (t : Tree) (d e : Content) → NamesOriginal os k → Chooses c values os b k t d e → sort_at k ≡ sort.Region → IsRegion t
  region_chosen b (type_variable u r) t d e n h q = cc
  region_chosen b integer_variable t d e n h q = cc
  region_chosen b float_variable t d e n h q = cc
  region_chosen b (const_variable u) t d e n h q = cc
  region_chosen b (region_variable u) t d e n (inl new) q = subst IsRegion (sym new.tree) (of_variable _, refl)
  region_chosen b (region_variable u) t d e n (inr (g, same)) q = (let v = g.value in v.fits)
  region_chosen b (placeholder sort.Region zero m) t d e n h q = subst IsRegion (sym h.0) (term_region c (get_or os m empty) n (original_at (IsClosedTerm c) os m (of_sort sort.Region) terms n))
  region_chosen b (placeholder sort.Region (suc u) m) t d e n h q = subst IsRegion (sym h.0) (of_free (region.Placeholder _ _), refl)
  region_chosen b (placeholder sort.Ty u m) t d e n h q = cc
  region_chosen b (placeholder sort.Const u m) t d e n h q = cc

  pub regions_chosen : (b : ℕ) (ks : List PositionKind) (ts : List Tree) (d f : Content) → NameOriginals os ks → ChoosesAll c values os b ks ts d f → AreRegionsAt ks ts
  regions_chosen b [] [] d f n h = tt
  regions_chosen b [] (t ∷ ts) d f n h = absurd h
  regions_chosen b (k ∷ ks) [] d f n h = absurd h
  regions_chosen b (k ∷ ks) (t ∷ ts) d f n (e, one, rest) = (region_chosen b k t d e n.0 one, regions_chosen (suc b) ks ts e f n.1 rest)

-- the trees at positions are closed
module _ (c : Content) (values os : List Tree) (terms : AllTrees (IsClosedTerm c) os) where
  original_closed : (os : List Tree) (n : ℕ) → AllTrees (IsClosedTerm c) os → IsClosed (get_or os n empty)
  original_closed [] n h = tt
  original_closed (o ∷ os) zero h = (let k = h.0 in k.closed)
  original_closed (o ∷ os) (suc n) h = original_closed os n h.1

  variable_closed : (b : ℕ) (k : PositionKind) (v : VariableKind) (t : Tree) (d e : Content) → ChoosesVariable c values os b k v t d e → IsClosed t
  variable_closed b k v t d e (inl new) = subst IsClosed (sym new.tree) (tt, tt)
  variable_closed b k v t d e (inr (g, same)) = (let x = g.value in x.closed)

  closed_chosen : (b : ℕ) (k : PositionKind) (t : Tree) (d e : Content) → Chooses c values os b k t d e → IsClosed t
  closed_chosen b (type_variable u r) t d e h = variable_closed b (type_variable u r) kind.Ty t d e h
  closed_chosen b integer_variable t d e h = variable_closed b integer_variable kind.Int t d e h
  closed_chosen b float_variable t d e h = variable_closed b float_variable kind.Float t d e h
  closed_chosen b (const_variable u) t d e h = variable_closed b (const_variable u) kind.Const t d e h
  closed_chosen b (region_variable u) t d e h = variable_closed b (region_variable u) kind.Region t d e h
  closed_chosen b (placeholder s zero m) t d e h = subst IsClosed (sym h.0) (original_closed os m terms)
  closed_chosen b (placeholder sort.Ty (suc u) m) t d e h = subst IsClosed (sym h.0) (tt, tt)
  closed_chosen b (placeholder sort.Region (suc u) m) t d e h = subst IsClosed (sym h.0) (tt, tt)
  closed_chosen b (placeholder sort.Const (suc u) m) t d e h = subst IsClosed (sym h.0) (tt, tt)

  pub all_closed : (b : ℕ) (ks : List PositionKind) (ts : List Tree) (d f : Content) → ChoosesAll c values os b ks ts d f → (j : ℕ) → IsClosed (get_or ts j empty)
  all_closed b [] [] d f h j = tt
  all_closed b [] (t ∷ ts) d f h j = absurd h
  all_closed b (k ∷ ks) [] d f h j = absurd h
  all_closed b (k ∷ ks) (t ∷ ts) d f (e, one, rest) zero = closed_chosen b k t d e one
  all_closed b (k ∷ ks) (t ∷ ts) d f (e, one, rest) (suc j) = all_closed (suc b) ks ts e f rest j

-- .. so a closed term of a region stays a region where its positions are filled
region_at : (ks : List CanonicalVarKind) (xs : List Tree) (b : ℕ) → AreRegionsAt (map kind_of_var ks) xs → IsOfSort (slice_get (map (λ k. sort_at (kind_of_var k)) ks) b) (of_sort sort.Region) → IsRegion (get_or xs b empty)
region_at [] xs b h k = absurd k
region_at (s ∷ ss) [] b h k = absurd h
region_at (s ∷ ss) (x ∷ xs) zero h k = h.0 (let same : sort_at (kind_of_var s) ≡ sort.Region = cc in same)
region_at (s ∷ ss) (x ∷ xs) (suc b) h k = region_at ss xs b h.1 k

name_filled : (xs : List Tree) (x : RegionName) → filled xs (region_tree x) ≡ region_tree x
name_filled xs (of_variable n) = refl
name_filled xs (of_free r) = refl

region_filled : (xs : List Tree) (t : Tree) → IsRegion t → IsRegion (filled xs t)
region_filled xs t (x, e) = let is = named_tree t x e in subst IsRegion (sym (ap (filled xs) is ∙ name_filled xs x ∙ sym is)) (x, e)

pub filled_region : (ks : List CanonicalVarKind) (xs : List Tree) (t : Tree) → AreRegionsAt (map kind_of_var ks) xs → kind_of t ≡ Some (of_sort sort.Region) → IsFormed t → IsClosed t → NamesFresh (map (λ k. sort_at (kind_of_var k)) ks) t → IsRegion (filled xs t)
filled_region ks xs t h k f c n = ⊎_elim
    (λ (p : (b : ℕ) × (t ≡ node (label.Bound sort.Region index.Canonical b) empty)). subst IsRegion (sym (ap (filled xs) p.1)) (region_at ks xs p.0 h (let m = subst (NamesFresh (map (λ k. sort_at (kind_of_var k)) ks)) p.1 n in m.0)))
    (λ (r : IsRegion t). region_filled xs t r)
    (closed_region t k f c)

-- the left side of a constraint, filled
pub left_filled : (r : Relation) (ks : List CanonicalVarKind) (xs : List Tree) (t : Tree) → AreRegionsAt (map kind_of_var ks) xs → FitsPlace (left_place r) (kind_of t) → IsFormed t → IsClosed t → NamesFresh (map (λ k. sort_at (kind_of_var k)) ks) t → HasValues xs t
    → IsLeftSide r (filled xs t)
left_filled relation.TypeOutlives ks xs t h p f c n v = kind_of-filled xs t v ∙ p
left_filled relation.Equal ks xs t h p f c n v = filled_region ks xs t h p f c n
left_filled relation.RegionOutlives ks xs t h p f c n v = filled_region ks xs t h p f c n
