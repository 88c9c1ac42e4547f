-- Nodes that are variables or free regions, by their labels.
use Rattle.nts_model.proofs.Tables.Fitting.{region_label}
use Rattle.nts_model.proofs.Tables.Kept.{variable_label}
use Rattle.nts_model.proofs.Terms.Substituting.{no_children}
use Rattle.nts_model.specs.Tables.Contents.{Content}
use Rattle.nts_model.specs.Tables.Contents.{Content}
use Rattle.nts_model.specs.Tables.Contents.{Content}
use Rattle.nts_model.specs.Tables.Contents.{Content}
use Rattle.nts_model.specs.Tables.Contents.{Content}
use Rattle.nts_model.specs.Tables.Worlds.{KnowsAll}
use Rattle.nts_model.specs.Terms.Regions.{IsRegion}
use Rattle.nts_model.specs.Terms.Regions.{RegionName, of_variable, IsRegion, name_of_label}
use Rattle.nts_model.specs.Terms.Regions.{of_variable, of_free, IsRegion}
use Rattle.nts_model.specs.Terms.Trees.{Tree, node, NodeKind, of_sort, sort_of_variable}
use Rattle.nts_model.specs.Terms.Trees.{Tree, node, children, of_sort, kind_of_label, sort_of_variable, variable_of}
use Rattle.nts_model.specs.Terms.Trees.{Tree, node, children, variable_of, variable_tree}
use Rattle.nts_model.specs.Terms.Trees.{Tree, node, children, shape, Meets, kind_of_label, of_sort, variable_tree}
use Rattle.nts_model.specs.Terms.Trees.{Tree, node, NodeKind, of_sort, sort_of_variable, kind_of_label, children, shape, Meets, in_order, variable_of, variable_tree}
use Rattle.nts_model.specs.Terms.Trees.{Tree, node, children, shape, Meets, variable_of, variable_tree}
use Rattle.nts_model.specs.declared.labels.Label.TheVariants as label
use Rattle.nts_model.specs.declared.labels.Label.{Label}
use Rattle.nts_model.specs.declared.labels.Leaf.TheVariants as leaf
use Rattle.nts_model.specs.declared.labels.Sort.TheVariants as sort
use Rattle.nts_model.specs.declared.labels.VariableKind.TheVariants as kind
use Rattle.nts_model.specs.declared.labels.VariableKind.{VariableKind}
use Rattle.nts_unify.specs.Changing.{is_free_region}
use Rattle.nts_unify.specs.Changing.{is_free_region}
use Rattle.nts_unify.specs.Changing.{is_free_region}
use Rattle.nts_unify.specs.Reading.{recorded_of}
use Rattle.nts_unify.specs.Reading.{recorded_of, AreConstraints}
use Rattle.nts_unify.specs.declared.contents.Constraint.{Constraint}
use Rattle.std.proofs.Common.{◌≡◌, ℕ, List, [], Option, Some, None, refl, sym, ap, subst, ◌∙◌}
use Rattle.std.proofs.Common.{◌≡◌, ℕ, true, List, Some, refl, sym, ap, subst, ◌∙◌}
use Rattle.std.proofs.Common.{◌≡◌, ◌≢◌, true, false, ℕ, List, [], ◌∷◌, map, Option, Some, None, refl, sym, ap, subst, ◌∙◌}
use Rattle.std.proofs.Common.{◌≡◌, ◌≢◌, ℕ, true, false, List, [], ◌∷◌, Option, Some, None, refl, sym, ap, ◌∙◌, Result, Ok, Err, IfOk}
use Rattle.std.proofs.Common.{◌≡◌, ◌≢◌, ℕ, Some, None, refl, sym, ap, ◌∙◌}
use Rattle.std.proofs.Common.{◌≡◌, ◌≢◌, ℕ, true, false, List, [], ◌∷◌, Option, Some, None, refl, sym, ap, subst, ◌∙◌}

-- the variable that a label names
kind_found : Option (VariableKind × ℕ) → NodeKind → NodeKind
kind_found None k = k
kind_found (Some v) k = of_sort (sort_of_variable v.0)

found_kind : (l : Label) → kind_found (variable_of l) (kind_of_label l) ≡ kind_of_label l
unfolding kind_found
found_kind (label.Leaf (leaf.Variable k n)) = refl
found_kind (label.Leaf (leaf.Region r)) = refl
found_kind (label.Leaf (leaf.TyConstant c)) = refl
found_kind (label.Leaf (leaf.ConstConstant c)) = refl
found_kind (label.Bound s i n) = refl
found_kind (label.Ty h) = refl
found_kind (label.Const h) = refl
found_kind (label.Clause h) = refl
found_kind (label.Predicate h) = refl
found_kind (label.List h) = refl

pub kind_of-variable : (l : Label) (k : VariableKind) (n : ℕ) → variable_of l ≡ Some (k, n) → kind_of_label l ≡ of_sort (sort_of_variable k)
unfolding kind_found
kind_of-variable l k n e = sym (found_kind l) ∙ ap (λ o. kind_found o (kind_of_label l)) e

-- a node that is a variable has no children
pub variable_node : (t : Tree) (l : Label) (k : VariableKind) (n : ℕ) → t ≡ node l (children t) → Meets (shape l) (children t) → variable_of l ≡ Some (k, n) → t ≡ variable_tree k n
variable_node t l k n is m v =
    let e = variable_label l k n v in
    let none : Meets (in_order []) (children t) = rw e at m in
    is ∙ (λ i. node (e i) (no_children (children t) none i))

pub region_sort : (k : VariableKind) → k ≢ kind.Region → of_sort (sort_of_variable k) ≡ of_sort sort.Region → ⊥
region_sort kind.Ty h e = cc
region_sort kind.Int h e = cc
region_sort kind.Float h e = cc
region_sort kind.Const h e = cc
region_sort kind.Region h e = h refl

-- a node that is no bound region
region_at : (l : Label) (c : Tree) → Meets (shape l) c → is_free_region l ≡ true → IsRegion (node l c)
region_at (label.Leaf (leaf.Variable kind.Region n)) c m e = rw (no_children c m) (of_variable n, refl)
region_at (label.Leaf (leaf.Variable kind.Ty n)) c m e = cc
region_at (label.Leaf (leaf.Variable kind.Int n)) c m e = cc
region_at (label.Leaf (leaf.Variable kind.Float n)) c m e = cc
region_at (label.Leaf (leaf.Variable kind.Const n)) c m e = cc
region_at (label.Leaf (leaf.Region r)) c m e = rw (no_children c m) (of_free r, refl)
region_at (label.Leaf (leaf.TyConstant x)) c m e = cc
region_at (label.Leaf (leaf.ConstConstant x)) c m e = cc
region_at (label.Bound s i n) c m e = cc
region_at (label.Ty h) c m e = cc
region_at (label.Const h) c m e = cc
region_at (label.Clause h) c m e = cc
region_at (label.Predicate h) c m e = cc
region_at (label.List h) c m e = cc

pub free_region : (t : Tree) (l : Label) → t ≡ node l (children t) → Meets (shape l) (children t) → is_free_region l ≡ true → IsRegion t
free_region t l is m e = subst (λ (x : Tree). IsRegion x) (sym is) (region_at l (children t) m e)

-- the sides of the constraints are of the table
pub sides_of : (ts : List Tree) (c : Content) (xs : List Constraint) → AreConstraints ts c xs → KnowsAll c (map (recorded_of ts) xs)
sides_of ts c [] h = tt
sides_of ts c (x ∷ xs) h = (h.0.left_known, h.0.right_known, sides_of ts c xs h.1)

-- the label of a free region
free_label : (l : Label) (x : RegionName) → name_of_label l ≡ Some x → is_free_region l ≡ true
free_label (label.Leaf (leaf.Variable kind.Region n)) x e = refl
free_label (label.Leaf (leaf.Variable kind.Ty n)) x e = cc
free_label (label.Leaf (leaf.Variable kind.Int n)) x e = cc
free_label (label.Leaf (leaf.Variable kind.Float n)) x e = cc
free_label (label.Leaf (leaf.Variable kind.Const n)) x e = cc
free_label (label.Leaf (leaf.Region r)) x e = refl
free_label (label.Leaf (leaf.TyConstant q)) x e = cc
free_label (label.Leaf (leaf.ConstConstant q)) x e = cc
free_label (label.Bound q i n) x e = cc
free_label (label.Ty h) x e = cc
free_label (label.Const h) x e = cc
free_label (label.Clause h) x e = cc
free_label (label.Predicate h) x e = cc
free_label (label.List h) x e = cc

pub region_free : (t : Tree) (l : Label) → t ≡ node l (children t) → IsRegion t → is_free_region l ≡ true
region_free t l is h = (let k : IsRegion (node l (children t)) = subst (λ (x : Tree). IsRegion x) is h in free_label l k.0 (region_label l (children t) k.0 k.1).0)

pub true_false : true ≡ false → ⊥
true_false r = cc

pub if_ok : {A E : Type 0} {P Q : A → Type 0} (r : Result A E) → ((a : A) → P a → Q a) → IfOk r P → IfOk r Q
if_ok (Ok a) f h = f a h
if_ok (Err e) f h = tt
