-- A response applied to a table, step by step: what is guessed and chosen for its positions, made equal, and recorded.
use Rattle.std.specs.Prelude.{◌≡◌, ℕ, zero, suc, ◌+◌, ◌≤◌, List, [], ◌∷◌, length, get_or, slice_get, Option, Some, None}
use Rattle.nts_model.specs.declared.labels.VariableKind.{VariableKind}
use Rattle.nts_model.specs.declared.labels.VariableKind.TheVariants as kind
use Rattle.nts_model.specs.declared.labels.Sort.{Sort}
use Rattle.nts_model.specs.declared.labels.Sort.TheVariants as sort
use Rattle.nts_model.specs.declared.labels.Leaf.TheVariants as leaf
use Rattle.nts_model.specs.declared.labels.Label.{Label}
use Rattle.nts_model.specs.declared.labels.Label.TheVariants as label
use Rattle.nts_model.specs.Terms.Trees.{Tree, empty, kind_of, of_sort, IsClosed}
use Rattle.nts_model.specs.Canonical.Numbered.{position}
use Rattle.nts_model.specs.Tables.Contents.{Content, in_universe}
use Rattle.nts_model.specs.Tables.Resolving.{Knows}
use Rattle.nts_model.specs.Tables.Levels.{NamesAll, level_in}
use Rattle.nts_model.specs.Tables.Worlds.{IsValue}
use Rattle.nts_model.specs.Canonical.Inputs.{PositionKind, type_variable, integer_variable, float_variable, const_variable, region_variable, placeholder}
use Rattle.nts_model.specs.Searching.Driving.{sort_at}
use Rattle.nts_model.specs.Terms.Substitutions.{filled}
use Rattle.nts_model.specs.Answers.Responses.{bound_of, universe_of_kind, placeholder_at}
use Rattle.nts_model.specs.Answers.Applying.{IsGuess, IsNew}
use Rattle.nts_model.proofs.Tables.Slots.{KeepsKinds}
use Rattle.nts_store.specs.declared.nodes.NodeId.{NodeId}
use Rattle.nts_store.specs.Growth.{tree_at, IsIn}
use Rattle.nts_store.specs.Filled.{HasValues}
use Rattle.nts_terms.specs.declared.cx.Cx.{Cx}
use Rattle.nts_terms.specs.declared.handles.GenericArg.{GenericArg}
use Rattle.nts_terms.specs.Handles.{HoldsArg}
use Rattle.nts_terms.specs.Rest.{Grows}
use Rattle.nts_canonical.specs.nts_unify.specs.declared.contents.Variable.{Variable}
use Rattle.nts_canonical.specs.nts_unify.specs.Entries.{Entries}
use Rattle.nts_canonical.specs.nts_unify.specs.Reading.{content_of}
use Rattle.nts_canonical.specs.nts_table.specs.Tables.{Table, IsTable}
use Rattle.nts_canonical.specs.declared.types.CanonicalVarKind.{CanonicalVarKind}
use Rattle.nts_canonical.specs.Forms.{kind_of_var}

-- the store grew at most, and the table is one of it; its open snapshots and its mode are as before
pub record KeepsFrame (old new : Cx) (t u : Table) : Type 0 where
  pub grows : Grows old new
  pub table : IsTable new.nodes u
  pub saved : u.saved ≡ t.saved
  pub mode : u.mode ≡ t.mode

-- what each step keeps, whatever it answers: the store grew at most, and the table is one of it, with the variables that it
-- had; its snapshots, mode, current universe and hidden types are as before
pub record StepKeeps (old new : Cx) (t u : Table) : Type 0 where
  pub grows : Grows old new
  pub table : IsTable new.nodes u
  pub kinds : KeepsKinds (content_of old.nodes t.entries) (content_of new.nodes u.entries)
  pub saved : u.saved ≡ t.saved
  pub mode : u.mode ≡ t.mode
  pub universe : u.entries.universe ≡ t.entries.universe
  pub hidden : u.entries.hidden ≡ t.entries.hidden

-- the content of a table as it was in an earlier universe
abbrev pub content_within : List Tree → Entries → ℕ → Content
content_within ts e u = in_universe (content_of ts e) u

-- an original: a term of the store and of the table
pub record IsOriginal (ts : List Tree) (c : Content) (x : GenericArg) : Type 0 where
  pub holds : HoldsArg ts x
  pub knows : Knows c (tree_at ts x.node)

-- the term is a position
abbrev pub IsPosition : Tree → ℕ → Type 0
IsPosition t b = (s : Sort) × (t ≡ position s b)

-- the label is a variable of that kind, of the root universe
pub record IsRootVariable (e : Entries) (l : Label) (k : VariableKind) : Type 0 where
  pub number : ℕ
  pub variable : Variable
  pub is : l ≡ label.Leaf (leaf.Variable k number)
  pub at : slice_get e.variables number ≡ Some variable
  pub root : variable.universe ≡ 0

-- a const without escaping bound variables
pub record IsClosedConst (t : Tree) : Type 0 where
  pub is_const : kind_of t ≡ Some (of_sort sort.Const)
  pub closed : IsClosed t

-- a term that a variable may stand for, and that the universe of the position's variable names
pub record Suits (c : Content) (k : PositionKind) (v : VariableKind) (t : Tree) : Type 0 where
  pub value : IsValue v t
  pub named : NamesAll (level_in c) (bound_of c.universe k) t

-- an original may be guessed for a position of this kind. For type variables and placeholders none is
abbrev pub MayStand : Content → PositionKind → Tree → Type 0
MayStand c (type_variable u r) t = ⊥
MayStand c integer_variable t = Suits c integer_variable kind.Int t
MayStand c float_variable t = Suits c float_variable kind.Float t
MayStand c (const_variable u) t = Suits c (const_variable u) kind.Const t
MayStand c (region_variable u) t = Suits c (region_variable u) kind.Region t
MayStand c (placeholder s u n) t = ⊥

-- what was guessed for the position b
abbrev pub GuessFits : Content → List Tree → List Tree → ℕ → PositionKind → Tree → Type 0
GuessFits c values os b (type_variable u r) t = ⊥
GuessFits c values os b integer_variable t = IsGuess c values os b integer_variable kind.Int t
GuessFits c values os b float_variable t = IsGuess c values os b float_variable kind.Float t
GuessFits c values os b (const_variable u) t = IsGuess c values os b (const_variable u) kind.Const t
GuessFits c values os b (region_variable u) t = IsGuess c values os b (region_variable u) kind.Region t
GuessFits c values os b (placeholder s u n) t = ⊥

-- .. an original of the store, or nothing
abbrev pub IsGuessed : List Tree → Content → List Tree → List Tree → ℕ → PositionKind → Option GenericArg → Type 0
IsGuessed ts c values os b k None = Unit {0}
IsGuessed ts c values os b k (Some x) = HoldsArg ts x × GuessFits c values os b k (tree_at ts x.node)

-- what was guessed for the positions of these kinds
pub record AreGuesses (ts : List Tree) (c : Content) (values os : List Tree) (ks : List CanonicalVarKind) (gs : List (Option GenericArg)) : Type 0 where
  pub long : length gs ≡ length ks
  pub each : (b : ℕ) (k : CanonicalVarKind) (g : Option GenericArg) → slice_get ks b ≡ Some k → slice_get gs b ≡ Some g → IsGuessed ts c values os b (kind_of_var k) g

-- a placeholder of the root names an original of its sort
abbrev pub NamesOriginal : List Tree → PositionKind → Type 0
NamesOriginal os (placeholder s zero n) = kind_of (get_or os n empty) ≡ Some (of_sort s)
NamesOriginal os k = Unit {0}

-- a value can be chosen for a position of this kind: its universe, counted from p, is one of those that the table has made,
-- of which m is the current one
pub record IsChoosable (p m : ℕ) (os : List Tree) (k : PositionKind) : Type 0 where
  pub universe : p + universe_of_kind k ≤ m
  pub original : NamesOriginal os k

-- what stands for a position where nothing is guessed: a new variable, or the placeholder. p is the universe before those
-- of the response were made
abbrev pub IsMadeForPosition : ℕ → List Tree → PositionKind → Tree → Content → Content → Type 0
IsMadeForPosition p os (type_variable u r) t d e = IsNew d e kind.Ty (p + u) t
IsMadeForPosition p os integer_variable t d e = IsNew d e kind.Int 0 t
IsMadeForPosition p os float_variable t d e = IsNew d e kind.Float 0 t
IsMadeForPosition p os (const_variable u) t d e = IsNew d e kind.Const (p + u) t
IsMadeForPosition p os (region_variable u) t d e = IsNew d e kind.Region (p + u) t
IsMadeForPosition p os (placeholder s u n) t d e = (t ≡ placeholder_at p os s u n) × (p + u ≤ d.universe) × (e ≡ d)

-- the position of the original that a placeholder of the root names
abbrev pub if_root : ℕ → ℕ → Option ℕ
if_root zero n = Some n
if_root (suc u) n = None

abbrev pub original_named : PositionKind → Option ℕ
original_named (placeholder s u n) = if_root u n
original_named k = None

-- a tree of the sort of a position
abbrev pub HasSort : PositionKind → Tree → Type 0
HasSort k t = kind_of t ≡ Some (of_sort (sort_at k))

abbrev pub PositionsHaveSorts : List PositionKind → List Tree → Type 0
PositionsHaveSorts [] [] = Unit {0}
PositionsHaveSorts (k ∷ ks) (t ∷ ts) = HasSort k t × PositionsHaveSorts ks ts
PositionsHaveSorts ks ts = ⊥

-- a term whose positions can be filled with these trees, to a term of the table
pub record IsFillable (ts : List Tree) (c : Content) (xs : List Tree) (t : NodeId) : Type 0 where
  pub within : IsIn ts t
  pub positions : HasValues xs (tree_at ts t)
  pub knows : Knows c (filled xs (tree_at ts t))
