-- What the table has of a variable's class.
use Rattle.std.specs.Prelude.{◌≡◌, ℕ, Option, Some, None, slice_get}
use Rattle.nts_model.specs.declared.labels.VariableKind.{VariableKind}
use Rattle.nts_model.specs.Terms.Trees.{Tree, empty, more, node, variable_of, variable_tree}
use Rattle.nts_model.specs.Tables.Contents.{Content, SlotState, unset, link, known, state_of}
use Rattle.nts_model.specs.Tables.Resolving.{root_of}
use Rattle.nts_unify.specs.declared.contents.State.{State}
use Rattle.nts_unify.specs.declared.contents.State.TheVariants.{Unset, Link, Known}
use Rattle.nts_unify.specs.declared.contents.Variable.{Variable}
use Rattle.nts_unify.specs.Entries.{Entries}
use Rattle.nts_unify.specs.Roots.{IsRoot}

-- the root of a variable's class, and what the table has of the root
pub record IsClassRoot (e : Entries) (n : ℕ) (v : Variable) : Type 0 where
  pub number : ℕ
  pub root : IsRoot e n number
  pub at : slice_get e.variables number ≡ Some v

abbrev pub unless_known : State → ℕ → Option ℕ
unless_known Unset u = Some u
unless_known (Link m) u = Some u
unless_known (Known t) u = None

-- the root's universe, if the class has no value
pub record HasOpenUniverse (e : Entries) (n : ℕ) (o : Option ℕ) : Type 0 where
  pub variable : Variable
  pub root : IsClassRoot e n variable
  pub is : o ≡ unless_known variable.state variable.universe

-- the root's universe
pub record HasUniverse (e : Entries) (n : ℕ) (o : Option ℕ) : Type 0 where
  pub variable : Variable
  pub root : IsClassRoot e n variable
  pub is : o ≡ Some variable.universe

-- the value of a variable's class, or else the root
abbrev pub value_or_root : VariableKind → ℕ → Option SlotState → Tree
value_or_root k r None = variable_tree k r
value_or_root k r (Some unset) = variable_tree k r
value_or_root k r (Some (link m)) = variable_tree k r
value_or_root k r (Some (known t)) = t

-- what stands for a variable: the value of its class, or else the root
abbrev pub shallow_variable : Content → VariableKind → ℕ → Tree
shallow_variable c k n = value_or_root k (root_of c n) (state_of c (root_of c n))

abbrev pub shallow_at : Content → Option (VariableKind × ℕ) → Tree → Tree
shallow_at c None t = t
shallow_at c (Some v) t = shallow_variable c v.0 v.1

-- .. of a tree that may be a variable
abbrev pub looked_up : Content → Tree → Tree
looked_up c empty = empty
looked_up c (more a b) = more a b
looked_up c (node l x) = shallow_at c (variable_of l) (node l x)

-- .. where the value of a type variable may be a variable of integers or floats, which is looked up too
abbrev pub shallowly_resolved : Content → Tree → Tree
shallowly_resolved c t = looked_up c (looked_up c t)
