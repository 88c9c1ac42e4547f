-- What a canonical input becomes in a new table.
use Rattle.std.specs.Global.{Vec}
use Rattle.std.specs.Prelude.{◌≡◌, All, ℕ, false, List, [], ◌∷◌, ◌++◌, map, length, slice_get, Option, Some, None}
use Rattle.nts_model.specs.declared.labels.Leaf.TheVariants as leaf
use Rattle.nts_model.specs.declared.labels.VariableKind.TheVariants as kind
use Rattle.nts_model.specs.declared.labels.Label.TheVariants as label
use Rattle.nts_model.specs.Terms.Trees.{Tree, node, any_label, is_infer, is_region_infer, is_placeholder}
use Rattle.nts_model.specs.Terms.Scoping.{IsWellBound}
use Rattle.nts_model.specs.Tables.Contents.{Content}
use Rattle.nts_model.specs.Tables.Resolving.{Knows}
use Rattle.nts_model.specs.Terms.Substitutions.{leaf_tree}
use Rattle.nts_model.specs.Canonical.Inputs.{Input, canonical_of, originals, PositionKind, type_variable, integer_variable, float_variable, const_variable, region_variable, placeholder}
use Rattle.nts_store.specs.Filled.{HasValues}
use Rattle.nts_terms.specs.declared.handles.AliasTerm.{AliasTerm}
use Rattle.nts_terms.specs.declared.handles.Ty.{Ty}
use Rattle.nts_terms.specs.declared.handles.GenericArg.{GenericArg}
use Rattle.nts_store.specs.Growth.{tree_at}
use Rattle.nts_terms.specs.Handles.{HoldsArg}
use Rattle.nts_unify.specs.declared.contents.HiddenType.{HiddenType}
use Rattle.nts_unify.specs.Entries.{Entries, added}
use Rattle.nts_table.specs.Making.{unset_variable, IsAddedTo}
use Rattle.nts_unify.specs.Reading.{content_of}
use Rattle.nts_table.specs.Registering.{Registers}
use Rattle.nts_canonical.specs.declared.types.CanonicalInput.{CanonicalInput}
use Rattle.nts_terms.specs.declared.modes.TypingMode.{TypingMode}
use Rattle.nts_canonical.specs.Forms.{kind_of_var, form_of, trees_of, query_tree, HoldsQuery}
use Rattle.nts_canonical.specs.Kinds.{AreInputKinds, value_leaf, value_leaves, made_variables}

abbrev pub kinds_of : CanonicalInput → List PositionKind
kinds_of c = map kind_of_var c.canonical.var_kinds.items

-- the leaves that stand for its positions in a new table
abbrev pub values_of : CanonicalInput → List Tree
values_of c = map leaf_tree (value_leaves 0 (kinds_of c))

-- neither variables nor placeholders
abbrev pub HasNoName : Tree → Type 0
HasNoName t = (any_label is_infer t ≡ false) × (any_label is_region_infer t ≡ false) × (any_label is_placeholder t ≡ false)

-- an input that a table can be made for: its kinds are those of inputs, each position that its terms name is of the
-- sort of its kind, they hold neither variables nor placeholders, and their binders list what they bind
pub record IsInputOf (ts : List Tree) (c : CanonicalInput) : Type 0 where
  pub holds : HoldsQuery ts c.canonical.value
  pub universe : c.canonical.max_universe ≡ 0
  pub kinds : AreInputKinds (kinds_of c)
  pub positions : HasValues (values_of c) (query_tree ts c.canonical.value)
  pub no_name : HasNoName (query_tree ts c.canonical.value)
  pub well_bound : IsWellBound (query_tree ts c.canonical.value)

-- what the input i is asked as in that mode: its leaves as arguments, which are terms of the store, and its canonical
-- form, whose universe is the root
pub record IsCanonicalOf (ts : List Tree) (i : Input) (m : TypingMode) (r : Vec GenericArg × CanonicalInput) : Type 0 where
  pub form : form_of ts r.1 ≡ canonical_of i
  pub universe : r.1.canonical.max_universe ≡ 0
  pub mode : r.1.typing_mode ≡ m
  pub originals : trees_of ts r.0.items ≡ map leaf_tree (originals i)
  pub holds_originals : All (HoldsArg ts) r.0.items
  pub holds : HoldsQuery ts r.1.canonical.value

-- the originals are values for the positions of the input, which a table can be made for
pub record IsAskable (ts : List Tree) (r : Vec GenericArg × CanonicalInput) : Type 0 where
  pub positions : HasValues (trees_of ts r.0.items) (query_tree ts r.1.canonical.value)
  pub input : IsInputOf ts r.1

-- the type variable that a tree is
abbrev pub type_variable_of : Option Tree → Option ℕ
type_variable_of (Some (node (label.Leaf (leaf.Variable kind.Ty n)) c)) = Some n
type_variable_of t = None

-- what the value of a kind in a universe adds to a table, where the earlier positions have these values: a variable,
-- or nothing for a placeholder. A type variable is of one sub root with the value at its sub root, if that is a type
-- variable at an earlier position
abbrev pub AddsValue : PositionKind → ℕ → List Tree → Entries → Entries → Type 0
AddsValue (type_variable w r) u values e f = IsAddedTo e f (unset_variable kind.Ty u) (type_variable_of (slice_get values r))
AddsValue integer_variable u values e f = f ≡ added e (unset_variable kind.Int 0)
AddsValue float_variable u values e f = f ≡ added e (unset_variable kind.Float 0)
AddsValue (const_variable w) u values e f = f ≡ added e (unset_variable kind.Const u)
AddsValue (region_variable w) u values e f = f ≡ added e (unset_variable kind.Region u)
AddsValue (placeholder s w a) u values e f = f ≡ e

-- the tree is the value: the new variable, or the placeholder
pub record IsPositionValue (k : PositionKind) (u : ℕ) (values : List Tree) (e f : Entries) (t : Tree) : Type 0 where
  pub tree : t ≡ leaf_tree (value_leaf k u (length e.variables))
  pub adds : AddsValue k u values e f

-- an argument of the store whose variables the table has
pub record IsArgOf (ts : List Tree) (e : Entries) (x : GenericArg) : Type 0 where
  pub holds : HoldsArg ts x
  pub known : Knows (content_of ts e) (tree_at ts x.node)

-- a table of the variables of these kinds alone, in which these hidden types are registered
abbrev pub made_entries : List PositionKind → List HiddenType → Entries
made_entries ks hs = record { variables = made_variables [] ks; order = []; universe = 0; constraints = []; hidden = record { lookup = hs; duplicates = [] } }

abbrev pub stored_hidden : AliasTerm × Ty → HiddenType
stored_hidden h = record { alias = h.0.def_id; args = h.0.args; ty = h.1 }

-- the type that gave place, behind the alias of the one that took it
abbrev pub replaced_by : HiddenType → Option Ty → List HiddenType
replaced_by h None = []
replaced_by h (Some ty) = record h { ty = ty } ∷ []

-- hidden types are registered in their order: of one alias the last stays. ds are those that gave place, in their order
abbrev pub RegistersAll : List Tree → Content → List HiddenType → List (AliasTerm × Ty) → List HiddenType → List HiddenType → Type 0
RegistersAll ts c xs [] ys ds = (ys ≡ xs) × (ds ≡ [])
RegistersAll ts c xs (h ∷ hs) ys ds =
    (zs : List HiddenType) × (older : Option Ty) × (es : List HiddenType) × Registers ts c xs (stored_hidden h) zs older
    × RegistersAll ts c zs hs ys es × (ds ≡ replaced_by (stored_hidden h) older ++ es)
