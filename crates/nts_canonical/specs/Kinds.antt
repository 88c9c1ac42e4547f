-- The leaves that stand for the positions of a canonical input in a new table, and that table's variables.
use Rattle.std.specs.Prelude.{◌≡◌, ℕ, ◌+◌, ◌≤◌, zero, suc, List, [], ◌∷◌, ◌++◌, slice_get, Option, Some, None}
use Rattle.nts_model.specs.declared.labels.Sort.TheVariants as sort
use Rattle.nts_model.specs.declared.labels.VariableKind.{VariableKind}
use Rattle.nts_model.specs.declared.labels.VariableKind.TheVariants as kind
use Rattle.nts_model.specs.declared.labels.FreeRegion.TheVariants as region
use Rattle.nts_model.specs.declared.labels.Constant.TheVariants as constant
use Rattle.nts_model.specs.declared.labels.Leaf.{Leaf}
use Rattle.nts_model.specs.declared.labels.Leaf.TheVariants as leaf
use Rattle.nts_model.specs.Answers.Responses.{universe_of_kind}
use Rattle.nts_model.specs.Canonical.Inputs.{PositionKind, type_variable, integer_variable, float_variable, const_variable, region_variable, placeholder}
use Rattle.nts_unify.specs.declared.contents.Variable.{Variable}
use Rattle.nts_table.specs.Making.{unset_variable}

-- the kinds that positions of an input have: their universe is the root; a type variable names the first position of
-- its sub root, and a placeholder its own; a region is a placeholder
abbrev pub IsInputKind : List PositionKind → ℕ → PositionKind → Type 0
IsInputKind ks i (type_variable u r) = (u ≡ 0) × (r ≤ i) × (slice_get ks r ≡ Some (type_variable 0 r))
IsInputKind ks i integer_variable = Unit {0}
IsInputKind ks i float_variable = Unit {0}
IsInputKind ks i (const_variable u) = u ≡ 0
IsInputKind ks i (region_variable u) = ⊥
IsInputKind ks i (placeholder s u n) = (u ≡ 0) × (n ≡ i)

abbrev pub AreInputKinds : List PositionKind → Type 0
AreInputKinds ks = (i : ℕ) (k : PositionKind) → slice_get ks i ≡ Some k → IsInputKind ks i k

-- the variable that a position stands for, if it is one
abbrev pub kind_of_position : PositionKind → Option VariableKind
kind_of_position (type_variable u r) = Some kind.Ty
kind_of_position integer_variable = Some kind.Int
kind_of_position float_variable = Some kind.Float
kind_of_position (const_variable u) = Some kind.Const
kind_of_position (region_variable u) = Some kind.Region
kind_of_position (placeholder s u n) = None

abbrev pub count_of : Option VariableKind → ℕ
count_of None = 0
count_of (Some k) = 1

-- the variable of that number, or the placeholder in that universe
abbrev pub value_leaf : PositionKind → (universe number : ℕ) → Leaf
value_leaf (type_variable w r) u n = leaf.Variable kind.Ty n
value_leaf integer_variable u n = leaf.Variable kind.Int n
value_leaf float_variable u n = leaf.Variable kind.Float n
value_leaf (const_variable w) u n = leaf.Variable kind.Const n
value_leaf (region_variable w) u n = leaf.Variable kind.Region n
value_leaf (placeholder sort.Ty w a) u n = leaf.TyConstant (constant.Placeholder u a)
value_leaf (placeholder sort.Region w a) u n = leaf.Region (region.Placeholder u a)
value_leaf (placeholder sort.Const w a) u n = leaf.ConstConstant (constant.Placeholder u a)

-- one for each kind. The variables have the numbers from n on
abbrev pub value_leaves : ℕ → List PositionKind → List Leaf
value_leaves n [] = []
value_leaves n (k ∷ ks) = value_leaf k (universe_of_kind k) n ∷ value_leaves (n + count_of (kind_of_position k)) ks

-- how many of the positions before i are variables
abbrev pub variables_before : List PositionKind → ℕ → ℕ
variables_before ks zero = 0
variables_before [] (suc i) = 0
variables_before (k ∷ ks) (suc i) = count_of (kind_of_position k) + variables_before ks i

abbrev pub if_there : Option PositionKind → ℕ → Option ℕ
if_there None n = None
if_there (Some k) n = Some n

-- where a new variable leads that is of one sub root with the position r: to the variable there, if the position
-- is an earlier one
abbrev pub link_to : List PositionKind → ℕ → Option ℕ
link_to earlier r = if_there (slice_get earlier r) (variables_before earlier r)

-- the variable of a position after earlier ones, if it is one
abbrev pub made_variable : List PositionKind → PositionKind → List Variable
made_variable earlier (type_variable u r) = record (unset_variable kind.Ty u) { sub_link = link_to earlier r } ∷ []
made_variable earlier integer_variable = unset_variable kind.Int 0 ∷ []
made_variable earlier float_variable = unset_variable kind.Float 0 ∷ []
made_variable earlier (const_variable u) = unset_variable kind.Const u ∷ []
made_variable earlier (region_variable u) = unset_variable kind.Region u ∷ []
made_variable earlier (placeholder s u n) = []

abbrev pub made_variables : List PositionKind → List PositionKind → List Variable
made_variables earlier [] = []
made_variables earlier (k ∷ ks) = made_variable earlier k ++ made_variables (earlier ++ k ∷ []) ks
