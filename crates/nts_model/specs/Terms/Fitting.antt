-- What a variable may stand for.
use Rattle.std.specs.Prelude.{◌≡◌, Bool, true, false, Option, Some, None}
use Rattle.nts_model.specs.declared.labels.Sort.TheVariants as sort
use Rattle.nts_model.specs.declared.labels.VariableKind.{VariableKind}
use Rattle.nts_model.specs.declared.labels.VariableKind.TheVariants as kind
use Rattle.nts_model.specs.declared.labels.Leaf.TheVariants as leaf
use Rattle.nts_model.specs.declared.labels.TyHead.TheVariants as ty
use Rattle.nts_model.specs.declared.labels.Label.{Label}
use Rattle.nts_model.specs.declared.labels.Label.TheVariants as label
use Rattle.nts_model.specs.Terms.Trees.{Tree, kind_of, of_sort, label_of}
use Rattle.nts_model.specs.Terms.Regions.{IsRegion}

-- an integer type or an integer variable; a float type or a float variable
abbrev pub is_integer : Label → Bool
is_integer (label.Ty (ty.Int i)) = true
is_integer (label.Ty (ty.Uint i)) = true
is_integer (label.Leaf (leaf.Variable kind.Int n)) = true
is_integer l = false

abbrev pub is_float : Label → Bool
is_float (label.Ty (ty.Float f)) = true
is_float (label.Leaf (leaf.Variable kind.Float n)) = true
is_float l = false

-- the label of the tree passes the test
abbrev pub HasLabel : (Label → Bool) → Option Label → Type 0
HasLabel p None = ⊥
HasLabel p (Some l) = p l ≡ true

-- the tree is of the variable's sort: of an integer variable an integer type or variable, of a float variable
-- a float type or variable, of a region variable a free region or region variable
abbrev pub Fits : VariableKind → Tree → Type 0
Fits kind.Ty t = kind_of t ≡ Some (of_sort sort.Ty)
Fits kind.Const t = kind_of t ≡ Some (of_sort sort.Const)
Fits kind.Int t = HasLabel is_integer (label_of t)
Fits kind.Float t = HasLabel is_float (label_of t)
Fits kind.Region t = IsRegion t
