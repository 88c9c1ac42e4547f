-- Two regions can always be made one: no region constraint fails.
use Rattle.std.proofs.Common.{◌≡◌, ◌<◌, false, Some, refl, arith}
use Rattle.nts_model.specs.declared.labels.Sort.TheVariants as sort
use Rattle.nts_model.specs.declared.labels.VariableKind.TheVariants as kind
use Rattle.nts_model.specs.declared.labels.Leaf.TheVariants as leaf
use Rattle.nts_model.specs.declared.labels.BoundVarIndexKind.TheVariants as index
use Rattle.nts_model.specs.declared.labels.ListHead.{ListHead}
use Rattle.nts_model.specs.declared.labels.ListHead.TheVariants as list
use Rattle.nts_model.specs.declared.labels.Label.{Label}
use Rattle.nts_model.specs.declared.labels.Label.TheVariants as label
use Rattle.nts_model.specs.Terms.Trees.{Tree, empty, more, node, kind_of, kind_of_label, of_sort, any_label, is_canonical, IsClosed, IsFormed}
use Rattle.nts_model.specs.Terms.Regions.{of_variable, of_free, IsRegion}
use Rattle.nts_model.specs.Tables.Contents.{Content}
use Rattle.nts_model.specs.Tables.Resolving.{Knows, IsSound}
use Rattle.nts_model.specs.Tables.RegionClasses.{reading}
use Rattle.nts_model.specs.Tables.Solvable.{IsSolvable}
use Rattle.nts_model.specs.Tables.Equations.{AreUnrelated}
use Rattle.nts_model.proofs.Terms.Substituting.{leaf_alone}
use Rattle.nts_model.proofs.Terms.Unpositioned.{known_no_positions}
use Rattle.nts_model.proofs.Tables.Solvable.{reading-solves}
use Rattle.nts_decisions.proofs.BlurredWorlds.{regions_relate}

-- a closed term of the kind of regions is a region
no_list : (h : ListHead) → kind_of_label (label.List h) ≡ of_sort sort.Region → ⊥
no_list list.Args e = absurd (cc e)
no_list list.Env e = absurd (cc e)
no_list list.Sorts e = absurd (cc e)
no_list (list.Sort s) e = absurd (cc e)
no_list list.Binder e = absurd (cc e)

some_kind : (l : Label) (c : Tree) → kind_of (node l c) ≡ Some (of_sort sort.Region) → kind_of_label l ≡ of_sort sort.Region
some_kind l c e = cc e

pub region_of_kind : (t : Tree) → kind_of t ≡ Some (of_sort sort.Region) → IsFormed t → IsClosed t → any_label is_canonical t ≡ false → IsRegion t
region_of_kind empty e f c p = absurd (cc e)
region_of_kind (more a b) e f c p = absurd (cc e)
region_of_kind (node (label.Leaf (leaf.Variable kind.Region n)) t) e f c p = rw (leaf_alone (leaf.Variable kind.Region n) t f) (of_variable n, refl)
region_of_kind (node (label.Leaf (leaf.Region r)) t) e f c p = rw (leaf_alone (leaf.Region r) t f) (of_free r, refl)
region_of_kind (node (label.Leaf (leaf.Variable kind.Ty n)) t) e f c p = absurd (cc e)
region_of_kind (node (label.Leaf (leaf.Variable kind.Int n)) t) e f c p = absurd (cc e)
region_of_kind (node (label.Leaf (leaf.Variable kind.Float n)) t) e f c p = absurd (cc e)
region_of_kind (node (label.Leaf (leaf.Variable kind.Const n)) t) e f c p = absurd (cc e)
region_of_kind (node (label.Leaf (leaf.TyConstant a)) t) e f c p = absurd (cc e)
region_of_kind (node (label.Leaf (leaf.ConstConstant a)) t) e f c p = absurd (cc e)
region_of_kind (node (label.Bound s (index.Bound d) n) t) e f c p = absurd (let x : d < 0 = c.0 in omega (arith, x))
region_of_kind (node (label.Bound s index.Canonical n) t) e f c p = absurd (cc p)
region_of_kind (node (label.Ty x) t) e f c p = absurd (cc e)
region_of_kind (node (label.Const x) t) e f c p = absurd (cc e)
region_of_kind (node (label.Clause x) t) e f c p = absurd (cc e)
region_of_kind (node (label.Predicate x) t) e f c p = absurd (cc e)
region_of_kind (node (label.List x) t) e f c p = absurd (no_list x (some_kind (label.List x) t e))

-- a term of a table of that kind
pub record IsRegionTerm (c : Content) (t : Tree) : Type 0 where
  pub knows : Knows c t
  pub of_kind : kind_of t ≡ Some (of_sort sort.Region)
  pub formed : IsFormed t
  pub closed : IsClosed t

region_term : (c : Content) (t : Tree) → IsRegionTerm c t → IsRegion t
region_term c t h = region_of_kind t h.of_kind h.formed h.closed (known_no_positions c t h.knows)

pub regions_are_related : (c : Content) (a b : Tree) → IsSound c → IsSolvable c → IsRegionTerm c a → IsRegionTerm c b → AreUnrelated c a b → ⊥
regions_are_related c a b sound solvable x y u = regions_relate c (reading c) a b (reading-solves c sound solvable) x.knows y.knows (region_term c a x) (region_term c b y) u
