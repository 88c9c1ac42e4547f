-- The parts of a node that are related one by one, and how they vary with it.
use Rattle.std.specs.Prelude.{◌≡◌, ◌⊎◌, ℕ, zero, suc, ◌+◌, ◌==◌, if◌then◌else◌, ◌&&◌, Option, Some, None, Bool, true, false, List, slice_get}
use Rattle.nts_model.specs.declared.labels.Sort.TheVariants as sort
use Rattle.nts_model.specs.declared.labels.Variance.{Variance}
use Rattle.nts_model.specs.declared.labels.Variance.TheVariants as variance
use Rattle.nts_model.specs.declared.labels.AliasHead.TheVariants as alias_of
use Rattle.nts_model.specs.declared.labels.TyHead.TheVariants as ty
use Rattle.nts_model.specs.declared.labels.ConstHead.TheVariants as konst
use Rattle.nts_model.specs.declared.labels.VariableKind.TheVariants as kind
use Rattle.nts_model.specs.declared.labels.Leaf.TheVariants as leaf
use Rattle.nts_model.specs.declared.labels.Label.{Label}
use Rattle.nts_model.specs.declared.labels.Label.TheVariants as label
use Rattle.nts_model.specs.Terms.Trees.{Tree, empty, node, children, of_sort, kind_of, label_of, any_label, is_infer, is_alias, row_at, IsRow}
use Rattle.nts_model.specs.Terms.Fitting.{is_integer, is_float, HasLabel}
use Rattle.nts_model.specs.Derivations.Related.{rest_variances}
use Rattle.nts_variance_model.specs.Variances.Forms.{Form, a_constructor, a_function, a_value, an_alias, over}
use Rattle.nts_store.specs.TypeFlags.{varies}
use Rattle.nts_terms.specs.Signatures.{variance_or_invariant}

-- constructors, function pointers, aliases and const values have parts
abbrev pub has_parts : Label → Bool
has_parts (label.Ty (ty.Ctor i)) = true
has_parts (label.Ty ty.FnPtr) = true
has_parts (label.Ty (ty.Alias i)) = true
has_parts (label.Const (konst.Unevaluated i)) = true
has_parts (label.Const (konst.Value b)) = true
has_parts l = false

abbrev pub form_of_tree : Tree → Form
form_of_tree (node (label.Ty (ty.Ctor i)) c) = a_constructor i
form_of_tree (node (label.Ty ty.FnPtr) c) = a_function (children (row_at c 0))
form_of_tree (node (label.Ty (ty.Alias i)) c) = an_alias (alias_of.Ty i)
form_of_tree (node (label.Const (konst.Unevaluated i)) c) = an_alias (alias_of.Const i)
form_of_tree (node (label.Const (konst.Value b)) c) = a_value b
form_of_tree t = a_value 0

abbrev pub parts_of : Tree → Tree
parts_of (node (label.Ty (ty.Ctor i)) c) = children (row_at c 0)
parts_of (node (label.Ty ty.FnPtr) c) = children (row_at c 1)
parts_of (node (label.Ty (ty.Alias i)) c) = children (row_at c 0)
parts_of (node (label.Const (konst.Unevaluated i)) c) = children (row_at c 0)
parts_of (node (label.Const (konst.Value b)) c) = c
parts_of t = empty

-- how the part at a place varies with the whole, where there are so many parts
abbrev pub function_variance : ℕ → ℕ → Variance
function_variance i n = if (i + 1) == n then variance.Covariant else variance.Contravariant

abbrev pub variance_in : (ℕ → List Variance) → Label → ℕ → ℕ → Variance
variance_in declared (label.Ty (ty.Ctor k)) i n = variance_or_invariant (slice_get (declared k) i)
variance_in declared (label.Ty ty.FnPtr) i n = function_variance i n
variance_in declared l i n = variance.Invariant

-- the variances from a place on
abbrev pub variances_from : ℕ → List Variance → List Variance
variances_from zero ws = ws
variances_from (suc i) ws = variances_from i (rest_variances ws)

-- an alias that no bound variable escapes from
abbrev pub none_escapes : Option ℕ → Bool
none_escapes None = true
none_escapes (Some n) = false

abbrev pub closed_alias : Label → Option ℕ → Bool
closed_alias l o = is_alias l && none_escapes o

-- the number of a type variable, and whether the label is a const variable's
abbrev pub number_of_type : Label → Option ℕ
number_of_type (label.Leaf (leaf.Variable kind.Ty n)) = Some n
number_of_type l = None

abbrev pub const_variable : Label → Bool
const_variable (label.Leaf (leaf.Variable kind.Const n)) = true
const_variable l = false

-- nothing in the tree may vary: no variable, and no free region but erased and error ones
pub record IsFixedTree (t : Tree) : Type 0 where
  pub no_infer : any_label is_infer t ≡ false
  pub no_region : any_label varies t ≡ false

-- a const or a number
abbrev pub IsAlone : Tree → Type 0
IsAlone t = (kind_of t ≡ Some (of_sort sort.Const)) ⊎ (HasLabel is_integer (label_of t) ⊎ HasLabel is_float (label_of t))

-- a part without aliases stands as it is: related invariantly, or a const, or one in which nothing may vary
abbrev pub StandsAlone : Variance → Tree → Type 0
StandsAlone v t = ((v ≡ variance.Invariant) ⊎ (kind_of t ≡ Some (of_sort sort.Const))) ⊎ IsFixedTree t

-- a node over its parts
pub record IsNodeWithParts (t : Tree) : Type 0 where
  pub is : t ≡ over (form_of_tree t) (parts_of t)
  pub row : IsRow (parts_of t)
