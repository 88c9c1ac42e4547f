-- Finite trees of labelled nodes: one shape for types, regions, consts, arguments, predicates,
-- environments and goals. A list of trees is a tree too: `empty`, or `more` of a first tree and the rest.
use Rattle.std.specs.Prelude.{◌≡◌, ◌⊎◌, ℕ, zero, suc, ◌+◌, ◌<◌, ◌||◌, Bool, true, false, List, [], ◌∷◌, Option, Some, None}
use Rattle.nts_model.specs.declared.labels.Sort.{Sort}
use Rattle.nts_model.specs.declared.labels.Sort.TheVariants as sort
use Rattle.nts_model.specs.declared.labels.VariableKind.{VariableKind}
use Rattle.nts_model.specs.declared.labels.VariableKind.TheVariants as kind
use Rattle.nts_model.specs.declared.labels.FreeRegion.TheVariants as region
use Rattle.nts_model.specs.declared.labels.Constant.{Constant}
use Rattle.nts_model.specs.declared.labels.Constant.TheVariants as constant
use Rattle.nts_model.specs.declared.labels.Leaf.{Leaf}
use Rattle.nts_model.specs.declared.labels.Leaf.TheVariants as leaf
use Rattle.nts_model.specs.declared.labels.BoundVarIndexKind.TheVariants as index
use Rattle.nts_model.specs.declared.labels.AliasHead.{AliasHead}
use Rattle.nts_model.specs.declared.labels.AliasHead.TheVariants as alias_of
use Rattle.nts_model.specs.declared.labels.TyHead.TheVariants as ty
use Rattle.nts_model.specs.declared.labels.ConstHead.TheVariants as konst
use Rattle.nts_model.specs.declared.labels.ClauseHead.TheVariants as clause
use Rattle.nts_model.specs.declared.labels.PredicateHead.TheVariants as predicate
use Rattle.nts_model.specs.declared.labels.ListHead.TheVariants as list
use Rattle.nts_model.specs.declared.labels.Label.{Label}
use Rattle.nts_model.specs.declared.labels.Label.TheVariants as label

-- a term: a label over a row of trees, or a row of trees
pub data Tree : Type 0 where
  empty : Tree
  more : Tree → Tree → Tree
  node : Label → Tree → Tree

-- how many nodes and list places
abbrev pub size : Tree → ℕ
size empty = 0
size (more a b) = size a + size b + 1
size (node l c) = size c + 1

-- the label and the children of a node
abbrev pub label_of : Tree → Option Label
label_of empty = None
label_of (more a b) = None
label_of (node l c) = Some l

-- the children of a node, as a row
abbrev pub children : Tree → Tree
children empty = empty
children (more a b) = empty
children (node l c) = c

-- a list of trees
abbrev pub IsRow : Tree → Type 0
IsRow empty = Unit {0}
IsRow (more a b) = IsRow b
IsRow (node l c) = ⊥

-- how many trees a row has
abbrev pub row_length : Tree → ℕ
row_length empty = 0
row_length (more a b) = row_length b + 1
row_length (node l c) = 0

-- the tree at a place of a row
abbrev pub row_at : Tree → ℕ → Tree
row_at empty i = empty
row_at (more a b) zero = a
row_at (more a b) (suc i) = row_at b i
row_at (node l c) i = empty

-- the first i trees of a list
abbrev pub row_take : ℕ → Tree → Tree
row_take zero r = empty
row_take (suc i) empty = empty
row_take (suc i) (more a b) = more a (row_take i b)
row_take (suc i) (node l c) = empty

-- the tree is one of a list
abbrev pub IsInRow : Tree → Tree → Type 0
IsInRow t empty = ⊥
IsInRow t (more u us) = (t ≡ u) ⊎ IsInRow t us
IsInRow t (node l c) = ⊥

abbrev pub row_push : Tree → Tree → Tree
row_push empty t = more t empty
row_push (more a b) t = more a (row_push b t)
row_push (node l c) t = node l c

-- some node's label passes the test
abbrev pub any_label : (Label → Bool) → Tree → Bool
any_label p empty = false
any_label p (more a b) = any_label p a || any_label p b
any_label p (node l c) = p l || any_label p c

-- inference variables that are no regions
abbrev pub is_infer_kind : VariableKind → Bool
is_infer_kind kind.Region = false
is_infer_kind k = true

abbrev pub is_infer : Label → Bool
is_infer (label.Leaf (leaf.Variable k n)) = is_infer_kind k
is_infer l = false

abbrev pub is_region_infer_kind : VariableKind → Bool
is_region_infer_kind kind.Region = true
is_region_infer_kind k = false

abbrev pub is_region_infer : Label → Bool
is_region_infer (label.Leaf (leaf.Variable k n)) = is_region_infer_kind k
is_region_infer l = false

-- placeholders of types, consts and regions
abbrev pub is_placeholder_constant : Constant → Bool
is_placeholder_constant (constant.Placeholder u n) = true
is_placeholder_constant c = false

abbrev pub is_placeholder : Label → Bool
is_placeholder (label.Leaf (leaf.Region (region.Placeholder u n))) = true
is_placeholder (label.Leaf (leaf.TyConstant c)) = is_placeholder_constant c
is_placeholder (label.Leaf (leaf.ConstConstant c)) = is_placeholder_constant c
is_placeholder l = false

-- aliases of types, and consts that are to be evaluated
abbrev pub is_alias : Label → Bool
is_alias (label.Ty (ty.Alias i)) = true
is_alias (label.Const (konst.Unevaluated i)) = true
is_alias l = false

-- bound variables that are positions of a canonical value
abbrev pub is_canonical : Label → Bool
is_canonical (label.Bound s index.Canonical n) = true
is_canonical l = false

-- how many binders a node is: a function pointer and a predicate bind variables
abbrev pub binders : Label → ℕ
binders (label.Ty ty.FnPtr) = 1
binders (label.List list.Binder) = 1
binders l = 0

-- no bound variable passes c binders around the tree
abbrev pub IsBoundBelow : ℕ → Label → Type 0
IsBoundBelow c (label.Bound s (index.Bound d) n) = d < c
IsBoundBelow c l = Unit {0}

-- no bound variable of the tree passes the c binders around it
abbrev pub IsClosedUnder : ℕ → Tree → Type 0
IsClosedUnder c empty = Unit {0}
IsClosedUnder c (more a b) = IsClosedUnder c a × IsClosedUnder c b
IsClosedUnder c (node l ts) = IsBoundBelow c l × IsClosedUnder (c + binders l) ts

-- a tree without escaping bound variables
abbrev pub IsClosed : Tree → Type 0
IsClosed t = IsClosedUnder 0 t

-- what a node is: a type, region or const, a list of arguments, an environment, a predicate with its
-- binder, what a predicate says, the sorts of a binder, or one of them
pub data NodeKind : Type 0 where
  of_sort : Sort → NodeKind
  arguments environment bound_predicate statement sort_list one_sort : NodeKind

-- the sort of a leaf's tree
abbrev pub sort_of_variable : VariableKind → Sort
sort_of_variable kind.Const = sort.Const
sort_of_variable kind.Region = sort.Region
sort_of_variable k = sort.Ty

abbrev pub sort_of_leaf : Leaf → Sort
sort_of_leaf (leaf.Variable k n) = sort_of_variable k
sort_of_leaf (leaf.Region r) = sort.Region
sort_of_leaf (leaf.TyConstant c) = sort.Ty
sort_of_leaf (leaf.ConstConstant c) = sort.Const

-- the sort of an alias, and of what it stands for
abbrev pub sort_of_alias : AliasHead → Sort
sort_of_alias (alias_of.Ty i) = sort.Ty
sort_of_alias (alias_of.Const i) = sort.Const

abbrev pub kind_of_label : Label → NodeKind
kind_of_label (label.Leaf l) = of_sort (sort_of_leaf l)
kind_of_label (label.Bound s i n) = of_sort s
kind_of_label (label.Ty h) = of_sort sort.Ty
kind_of_label (label.Const h) = of_sort sort.Const
kind_of_label (label.Clause h) = statement
kind_of_label (label.Predicate h) = statement
kind_of_label (label.List list.Args) = arguments
kind_of_label (label.List list.Env) = environment
kind_of_label (label.List list.Sorts) = sort_list
kind_of_label (label.List (list.Sort s)) = one_sort
kind_of_label (label.List list.Binder) = bound_predicate

abbrev pub kind_of : Tree → Option NodeKind
kind_of empty = None
kind_of (more a b) = None
kind_of (node l c) = Some (kind_of_label l)

-- what may stand at a place among the children
pub data Place : Type 0 where
  is : NodeKind → Place
  any_term any_argument : Place

-- a node of that kind may stand at the place
abbrev pub FitsPlace : Place → Option NodeKind → Type 0
FitsPlace (is k) o = o ≡ Some k
FitsPlace any_term (Some (of_sort s)) = s ≡ sort.Region → ⊥
FitsPlace any_argument (Some (of_sort s)) = Unit {0}
FitsPlace p o = ⊥

-- the children of a label: these in order, or any number for one place
pub data Shape : Type 0 where
  in_order : List Place → Shape
  each : Place → Shape

-- the trees of a row may stand at these places, in order
abbrev pub HavePlaces : List Place → Tree → Type 0
HavePlaces [] empty = Unit {0}
HavePlaces (p ∷ ps) (more a b) = FitsPlace p (kind_of a) × HavePlaces ps b
HavePlaces ps t = ⊥

-- each tree of a row may stand at the place
abbrev pub AllFit : Place → Tree → Type 0
AllFit p empty = Unit {0}
AllFit p (more a b) = FitsPlace p (kind_of a) × AllFit p b
AllFit p (node l c) = ⊥

-- the row is of that shape
abbrev pub Meets : Shape → Tree → Type 0
Meets (in_order ps) c = HavePlaces ps c
Meets (each p) c = AllFit p c

abbrev pub a_type : Place
a_type = is (of_sort sort.Ty)

abbrev pub a_region : Place
a_region = is (of_sort sort.Region)

abbrev pub a_const : Place
a_const = is (of_sort sort.Const)

-- what an alias stands for: a type for an alias of a type, a const for one that is to be evaluated
abbrev pub a_result : AliasHead → Place
a_result h = is (of_sort (sort_of_alias h))

abbrev pub shape : Label → Shape
shape (label.Ty (ty.Ctor i)) = in_order (is arguments ∷ [])
shape (label.Ty ty.FnPtr) = in_order (is sort_list ∷ is arguments ∷ [])
shape (label.Ty (ty.Alias i)) = in_order (is arguments ∷ [])
shape (label.Const (konst.Unevaluated i)) = in_order (is arguments ∷ [])
shape (label.Const (konst.Value b)) = in_order (a_type ∷ [])
shape (label.Clause (clause.Trait i)) = in_order (is arguments ∷ [])
shape (label.Clause (clause.HostEffect i)) = in_order (is arguments ∷ [])
shape (label.Clause (clause.Projection h)) = in_order (is arguments ∷ a_result h ∷ [])
shape (label.Clause clause.TypeOutlives) = in_order (a_type ∷ a_region ∷ [])
shape (label.Clause clause.RegionOutlives) = in_order (a_region ∷ a_region ∷ [])
shape (label.Clause clause.ConstArgHasType) = in_order (a_const ∷ a_type ∷ [])
shape (label.Clause clause.WellFormed) = in_order (any_term ∷ [])
shape (label.Clause clause.ConstEvaluatable) = in_order (a_const ∷ [])
shape (label.Predicate (predicate.Subtype e)) = in_order (a_type ∷ a_type ∷ [])
shape (label.Predicate predicate.Coerce) = in_order (a_type ∷ a_type ∷ [])
shape (label.Predicate predicate.ConstEquate) = in_order (a_const ∷ a_const ∷ [])
shape (label.Predicate (predicate.NormalizesTo h)) = in_order (is arguments ∷ a_result h ∷ [])
shape (label.Predicate (predicate.AliasRelate d)) = in_order (any_term ∷ any_term ∷ [])
shape (label.List list.Args) = each any_argument
shape (label.List list.Env) = each (is bound_predicate)
shape (label.List list.Sorts) = each (is one_sort)
shape (label.List list.Binder) = in_order (is sort_list ∷ is statement ∷ [])
shape l = in_order []

-- each node has the children of its label
abbrev pub IsFormed : Tree → Type 0
IsFormed empty = Unit {0}
IsFormed (more a b) = IsFormed a × IsFormed b
IsFormed (node l c) = Meets (shape l) c × IsFormed c

-- the tree of a variable
abbrev pub variable_tree : VariableKind → ℕ → Tree
variable_tree k n = node (label.Leaf (leaf.Variable k n)) empty

-- the kind and the number of a variable's label
abbrev pub variable_of_leaf : Leaf → Option (VariableKind × ℕ)
variable_of_leaf (leaf.Variable k n) = Some (k, n)
variable_of_leaf l = None

abbrev pub variable_of : Label → Option (VariableKind × ℕ)
variable_of (label.Leaf l) = variable_of_leaf l
variable_of l = None

-- the number, if the variable is no region
abbrev pub infer_number : VariableKind → ℕ → Option ℕ
infer_number kind.Region n = None
infer_number k n = Some n

abbrev pub infer_of_variable : Option (VariableKind × ℕ) → Option ℕ
infer_of_variable None = None
infer_of_variable (Some v) = infer_number v.0 v.1

abbrev pub infer_of : Label → Option ℕ
infer_of l = infer_of_variable (variable_of l)
