-- What a test of a response's terms says.
use Rattle.std.proofs.Common.{◌≡◌, ◌↔◌, ⊎_elim, true, false, List, length, is_some, inl, inr, refl, sym, subst, ap}
use Rattle.std.specs.Prelude.{IsTrue, All}
use Rattle.nts_model.specs.declared.labels.Sort.{Sort}
use Rattle.nts_model.specs.declared.labels.FreeRegion.TheVariants as region
use Rattle.nts_model.specs.declared.labels.Leaf.{Leaf}
use Rattle.nts_model.specs.declared.labels.Leaf.TheVariants as leaf
use Rattle.nts_model.specs.declared.labels.Label.{Label}
use Rattle.nts_model.specs.declared.labels.Label.TheVariants as label
use Rattle.nts_model.specs.Terms.Trees.{Tree, empty, more, node}
use Rattle.nts_model.specs.Terms.Substitutions.{Occurs}
use Rattle.nts_model.specs.Derivations.Handlers.{NamesFresh, IsFixed}
use Rattle.nts_model.specs.Terms.Scoping.{IsWellBound}
use Rattle.nts_store.specs.declared.type_flags.TypeFlags.{TypeFlags}
use Rattle.nts_store.specs.declared.nodes.NodeId.{NodeId}
use Rattle.nts_store.specs.TypeFlags.{flags_of, escaping}
use Rattle.nts_store.specs.Growth.{tree_at}
use Rattle.nts_model.specs.Tables.Passing.{AllLabels}
use Rattle.nts_store.proofs.Escaping.{escapes}
use Rattle.nts_candidates.specs.Foreign.{is_foreign_leaf}
use Rattle.nts_store.proofs.Escaping.{closed_by_facts}
use Rattle.nts_canonical.specs.declared.types.Canonical.{Canonical}
use Rattle.nts_canonical.specs.Forms.{kind_of_var}
use Rattle.nts_response.specs.declared.types.Response.{Response}
use Rattle.nts_response.specs.OverSorts.{is_moved, MayStay, IsValueOver}
use Rattle.nts_response.specs.Applicable.{IsOverSorts, IsKindFor, response_sorts, IsApplicable}

-- a leaf is foreign to clauses exactly where it doesn't stay itself
fixed_leaf : (l : Leaf) → is_foreign_leaf l ≡ false → IsFixed l
fixed_leaf (leaf.Region region.Static) h = tt
fixed_leaf (leaf.Region region.Erased) h = tt
fixed_leaf (leaf.Region region.Error) h = tt
fixed_leaf (leaf.Region (region.EarlyParam n)) h = cc
fixed_leaf (leaf.Region (region.LateParam n)) h = cc
fixed_leaf (leaf.Region (region.Placeholder u n)) h = cc
fixed_leaf (leaf.Variable k n) h = cc
fixed_leaf (leaf.TyConstant a) h = cc
fixed_leaf (leaf.ConstConstant a) h = cc

leaf_fixed : (l : Leaf) → IsFixed l → is_foreign_leaf l ≡ false
leaf_fixed (leaf.Region region.Static) h = refl
leaf_fixed (leaf.Region region.Erased) h = refl
leaf_fixed (leaf.Region region.Error) h = refl
leaf_fixed (leaf.Region (region.EarlyParam n)) h = absurd h
leaf_fixed (leaf.Region (region.LateParam n)) h = absurd h
leaf_fixed (leaf.Region (region.Placeholder u n)) h = absurd h
leaf_fixed (leaf.Variable k n) h = absurd h
leaf_fixed (leaf.TyConstant a) h = absurd h
leaf_fixed (leaf.ConstConstant a) h = absurd h

names_all : (ss : List Sort) (t : Tree) → AllLabels (MayStay ss) t → NamesFresh ss t
names_all ss empty h = tt
names_all ss (more a b) h = (names_all ss a h.0, names_all ss b h.1)
names_all ss (node l c) h = (h.0.0, names_all ss c h.1)

leaves_stay : (ss : List Sort) (t : Tree) (x : Leaf) → AllLabels (MayStay ss) t → Occurs x t → IsFixed x
leaves_stay ss empty x h o = absurd o
leaves_stay ss (more a b) x h o = ⊎_elim (λ p. leaves_stay ss a x h.0 p) (λ q. leaves_stay ss b x h.1 q) o
leaves_stay ss (node l c) x h o = ⊎_elim (λ e. fixed_leaf x (subst (λ z. is_moved z ≡ false) (sym e) h.0.1)) (λ q. leaves_stay ss c x h.1 q) o

label_stays : (l : Label) → ((x : Leaf) → label.Leaf x ≡ l → IsFixed x) → is_moved l ≡ false
label_stays (label.Leaf y) f = leaf_fixed y (f y refl)
label_stays (label.Bound s i n) f = refl
label_stays (label.Ty h) f = refl
label_stays (label.Const h) f = refl
label_stays (label.Clause h) f = refl
label_stays (label.Predicate h) f = refl
label_stays (label.List h) f = refl

labels_stay : (ss : List Sort) (t : Tree) → NamesFresh ss t → ((x : Leaf) → Occurs x t → IsFixed x) → AllLabels (MayStay ss) t
labels_stay ss empty n f = tt
labels_stay ss (more a b) n f = (labels_stay ss a n.0 (λ x o. f x (inl o)), labels_stay ss b n.1 (λ x o. f x (inr o)))
labels_stay ss (node l c) n f = ((n.0, label_stays l (λ x e. f x (inl e))), labels_stay ss c n.1 (λ x o. f x (inr o)))

-- a term without escaping variables, by its labels
pub over_sorts : (ts : List Tree) (ss : List Sort) (t : NodeId) (f : TypeFlags) → f ≡ flags_of (tree_at ts t) → is_some f.escaping ≡ false → IsWellBound (tree_at ts t) → AllLabels (MayStay ss) (tree_at ts t) ↔ IsOverSorts ts ss t
over_sorts ts ss t f e h w = (
  (λ a. record {
    names = names_all ss (tree_at ts t) a;
    leaves = λ x o. leaves_stay ss (tree_at ts t) x a o;
    closed = closed_by_facts (tree_at ts t) f e h;
    well_bound = w;
  }),
  λ c. labels_stay ss (tree_at ts t) c.names c.leaves,
)

pub not_over_sorts : (ts : List Tree) (ss : List Sort) (t : NodeId) (f : TypeFlags) → f ≡ flags_of (tree_at ts t) → is_some f.escaping ≡ true → IsOverSorts ts ss t → ⊥
not_over_sorts ts ss t f e h c =
    let some : IsTrue (is_some (escaping (tree_at ts t))) = rw (ap (λ g. g.escaping) e) at h in
    (escapes (tree_at ts t)).0 some c.closed
