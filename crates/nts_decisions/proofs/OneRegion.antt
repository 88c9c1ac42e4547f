-- Trees in which the erased region is the only one: what a world says in which all regions are one, and how it is carried.
use Rattle.std.proofs.Common.{◌≡◌, ℕ, List, map, refl, sym, ap, subst, ◌∙◌}
use Rattle.nts_model.specs.declared.labels.Sort.{Sort}
use Rattle.nts_model.specs.declared.labels.Sort.TheVariants as sort
use Rattle.nts_model.specs.declared.labels.VariableKind.TheVariants as kind
use Rattle.nts_model.specs.declared.labels.FreeRegion.TheVariants as region
use Rattle.nts_model.specs.declared.labels.Leaf.{Leaf}
use Rattle.nts_model.specs.declared.labels.Leaf.TheVariants as leaf
use Rattle.nts_model.specs.declared.labels.BoundVarIndexKind.TheVariants as index
use Rattle.nts_model.specs.declared.labels.Label.{Label}
use Rattle.nts_model.specs.declared.labels.Label.TheVariants as label
use Rattle.nts_model.specs.Terms.Trees.{Tree, empty, more, node, IsFormed}
use Rattle.nts_model.specs.Terms.Placeholders.{CanName, leaf_level}
use Rattle.nts_model.specs.Tables.Levels.{term_level, NamesAll}
use Rattle.nts_model.specs.Tables.Passing.{AllLabels}
use Rattle.nts_model.specs.Terms.Substitutions.{leaf_tree, put, replace, filled_under, value_or, position_of, of_constant, leaf_sort, Renaming, rename}
use Rattle.nts_theory.specs.Refutation.Refutation.{IsCarrying}
use Rattle.nts_decisions.specs.Deciding.{blurred}
use Rattle.nts_model.proofs.Canonical.Positioned.{get_or-map}
use Rattle.nts_decisions.proofs.BlurredWorlds.{merged_leaf, merged, merged_blurred}

-- no region but the erased one
abbrev pub IsOneLabel : Label → Type 0
IsOneLabel (label.Leaf x) = merged_leaf x ≡ x
IsOneLabel l = Unit {0}

abbrev pub HasOneRegion : Tree → Type 0
HasOneRegion = AllLabels IsOneLabel

merged_twice : (x : Leaf) → merged_leaf (merged_leaf x) ≡ merged_leaf x
merged_twice (leaf.Region r) = refl
merged_twice (leaf.Variable kind.Region n) = refl
merged_twice (leaf.Variable kind.Ty n) = refl
merged_twice (leaf.Variable kind.Int n) = refl
merged_twice (leaf.Variable kind.Float n) = refl
merged_twice (leaf.Variable kind.Const n) = refl
merged_twice (leaf.TyConstant a) = refl
merged_twice (leaf.ConstConstant a) = refl

one_label : (l : Label) (c : Tree) → HasOneRegion (merged c) → HasOneRegion (merged (node l c))
one_label (label.Leaf x) c h = (merged_twice x, h)
one_label (label.Bound a b n) c h = (tt, h)
one_label (label.Ty x) c h = (tt, h)
one_label (label.Const x) c h = (tt, h)
one_label (label.Clause x) c h = (tt, h)
one_label (label.Predicate x) c h = (tt, h)
one_label (label.List x) c h = (tt, h)

pub merged_one : (t : Tree) → HasOneRegion (merged t)
merged_one empty = tt
merged_one (more a b) = (merged_one a, merged_one b)
merged_one (node l c) = one_label l c (merged_one c)

same_label : (l : Label) (c d : Tree) → IsOneLabel l → merged c ≡ d → merged (node l c) ≡ node l d
same_label (label.Leaf x) c d h e = cc (h, e)
same_label (label.Bound a b n) c d h e = ap (node (label.Bound a b n)) e
same_label (label.Ty x) c d h e = ap (node (label.Ty x)) e
same_label (label.Const x) c d h e = ap (node (label.Const x)) e
same_label (label.Clause x) c d h e = ap (node (label.Clause x)) e
same_label (label.Predicate x) c d h e = ap (node (label.Predicate x)) e
same_label (label.List x) c d h e = ap (node (label.List x)) e

pub merged_same : (t : Tree) → HasOneRegion t → merged t ≡ t
merged_same empty h = refl
merged_same (more a b) h = cc (merged_same a h.0, merged_same b h.1)
merged_same (node l c) h = same_label l c c h.0 (merged_same c h.1)

pub blurred_same : (t : Tree) → HasOneRegion t → IsFormed t → blurred t ≡ t
blurred_same t h f = sym (merged_blurred t f) ∙ merged_same t h

-- a universe that names its types and consts names it with its region
names_label : (u : ℕ) (l : Label) → IsOneLabel l → CanName u (term_level l) → CanName u (leaf_level l)
names_label u (label.Leaf (leaf.Variable k n)) h i = tt
names_label u (label.Leaf (leaf.Region region.Erased)) h i = tt
names_label u (label.Leaf (leaf.Region region.Static)) h i = tt
names_label u (label.Leaf (leaf.Region region.Error)) h i = tt
names_label u (label.Leaf (leaf.Region (region.EarlyParam n))) h i = tt
names_label u (label.Leaf (leaf.Region (region.LateParam n))) h i = tt
names_label u (label.Leaf (leaf.Region (region.Placeholder v n))) h i = absurd (cc h)
names_label u (label.Leaf (leaf.TyConstant a)) h i = i
names_label u (label.Leaf (leaf.ConstConstant a)) h i = i
names_label u (label.Bound a b n) h i = tt
names_label u (label.Ty x) h i = tt
names_label u (label.Const x) h i = tt
names_label u (label.Clause x) h i = tt
names_label u (label.Predicate x) h i = tt
names_label u (label.List x) h i = tt

pub names_regions : (u : ℕ) (t : Tree) → HasOneRegion t → NamesAll term_level u t → NamesAll leaf_level u t
names_regions u empty h i = tt
names_regions u (more a b) h i = (names_regions u a h.0 i.0, names_regions u b h.1 i.1)
names_regions u (node l c) h i = (names_label u l h.0 i.0, names_regions u c h.1 i.1)

-- renamed it has no other
constant_one : (s : Sort) (m : Leaf) → leaf_sort m ≡ of_constant s → merged_leaf m ≡ m
constant_one s (leaf.TyConstant a) e = refl
constant_one s (leaf.ConstConstant a) e = refl
constant_one s (leaf.Variable k n) e = absurd (cc e)
constant_one s (leaf.Region r) e = absurd (cc e)

module _ (ρ : Renaming) (h : IsCarrying ρ) where
  erased_stays : ρ.to (leaf.Region region.Erased) ≡ leaf.Region region.Erased
  erased_stays = h.plain region.Erased tt

  pub leaf_carried : (l : Leaf) → merged_leaf l ≡ l → merged_leaf (ρ.to l) ≡ ρ.to l
  leaf_carried (leaf.Variable kind.Region n) e = absurd (cc e)
  leaf_carried (leaf.Variable kind.Ty n) e = rw (h.variables kind.Ty n) refl
  leaf_carried (leaf.Variable kind.Int n) e = rw (h.variables kind.Int n) refl
  leaf_carried (leaf.Variable kind.Float n) e = rw (h.variables kind.Float n) refl
  leaf_carried (leaf.Variable kind.Const n) e = rw (h.variables kind.Const n) refl
  leaf_carried (leaf.Region r) e = subst (λ z. merged_leaf (ρ.to z) ≡ ρ.to z) e (rw erased_stays refl)
  leaf_carried (leaf.TyConstant a) e = constant_one sort.Ty (ρ.to (leaf.TyConstant a)) (ρ.keeps_sorts (leaf.TyConstant a))
  leaf_carried (leaf.ConstConstant a) e = constant_one sort.Const (ρ.to (leaf.ConstConstant a)) (ρ.keeps_sorts (leaf.ConstConstant a))

  label_carried : (l : Label) (c : Tree) → IsOneLabel l → HasOneRegion c → HasOneRegion (put (λ x. leaf_tree (ρ.to x)) l c)
  label_carried (label.Leaf x) c e i = (leaf_carried x e, tt)
  label_carried (label.Bound a b n) c e i = (tt, i)
  label_carried (label.Ty x) c e i = (tt, i)
  label_carried (label.Const x) c e i = (tt, i)
  label_carried (label.Clause x) c e i = (tt, i)
  label_carried (label.Predicate x) c e i = (tt, i)
  label_carried (label.List x) c e i = (tt, i)

  pub one_carried : (t : Tree) → HasOneRegion t → HasOneRegion (rename ρ t)
  one_carried empty i = tt
  one_carried (more a b) i = (one_carried a i.0, one_carried b i.1)
  one_carried (node l c) i = label_carried l (rename ρ c) i.0 (one_carried c i.1)

-- values in place of positions, where trees stand for leaves that are replaced
pub under_replaced : (f : Leaf → Tree) (us : List Tree) (g : Leaf → Tree) (t : Tree) → filled_under f us (replace g t) ≡ filled_under (λ l. filled_under f us (g l)) us t
under_replaced f us g empty = refl
under_replaced f us g (more a b) = cc (under_replaced f us g a, under_replaced f us g b)
under_replaced f us g (node l c) = by_label l (under_replaced f us g c)
  where
    by_label : (l : Label) → filled_under f us (replace g c) ≡ filled_under (λ x. filled_under f us (g x)) us c → filled_under f us (put g l (replace g c)) ≡ value_or (position_of l) us (put (λ x. filled_under f us (g x)) l (filled_under (λ x. filled_under f us (g x)) us c))
    by_label (label.Leaf x) e = refl
    by_label (label.Bound s i n) e = ap (λ z. value_or (position_of (label.Bound s i n)) us (node (label.Bound s i n) z)) e
    by_label (label.Ty x) e = ap (node (label.Ty x)) e
    by_label (label.Const x) e = ap (node (label.Const x)) e
    by_label (label.Clause x) e = ap (node (label.Clause x)) e
    by_label (label.Predicate x) e = ap (node (label.Predicate x)) e
    by_label (label.List x) e = ap (node (label.List x)) e

pub replaced_under : (g f : Leaf → Tree) (us : List Tree) (t : Tree) → replace g (filled_under f us t) ≡ filled_under (λ l. replace g (f l)) (map (replace g) us) t
replaced_under g f us empty = refl
replaced_under g f us (more a b) = cc (replaced_under g f us a, replaced_under g f us b)
replaced_under g f us (node l c) = by_label l (replaced_under g f us c)
  where
    by_label : (l : Label) → replace g (filled_under f us c) ≡ filled_under (λ x. replace g (f x)) (map (replace g) us) c → replace g (value_or (position_of l) us (put f l (filled_under f us c))) ≡ value_or (position_of l) (map (replace g) us) (put (λ x. replace g (f x)) l (filled_under (λ x. replace g (f x)) (map (replace g) us) c))
    by_label (label.Leaf x) e = refl
    by_label (label.Bound s (index.Bound d) n) e = ap (node (label.Bound s (index.Bound d) n)) e
    by_label (label.Bound s index.Canonical n) e = sym (get_or-map (replace g) refl us n)
    by_label (label.Ty x) e = ap (node (label.Ty x)) e
    by_label (label.Const x) e = ap (node (label.Const x)) e
    by_label (label.Clause x) e = ap (node (label.Clause x)) e
    by_label (label.Predicate x) e = ap (node (label.Predicate x)) e
    by_label (label.List x) e = ap (node (label.List x)) e
