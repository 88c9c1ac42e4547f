-- The text of terms.
use Rattle.std.specs.Prelude.{◌≡◌, ℕ, ◌==◌, Bool, true, false, List, [], ◌++◌, Option, None, Some, MatchOption, MatchBool, slice_get, codes}
use Rattle.std.specs.Fmt.{decimal}
use Rattle.std.specs.List.{position_or_len}
use Rattle.std.specs.Map.{lookup}
use Rattle.std.specs.Option.{option_map_or}
use Rattle.indexmap.specs.IndexSet.{insert_key}
use Rattle.nts_model.specs.declared.labels.VariableKind.TheVariants as kind
use Rattle.nts_model.specs.declared.labels.FreeRegion.TheVariants as region
use Rattle.nts_model.specs.declared.labels.Constant.TheVariants as constant
use Rattle.nts_model.specs.declared.labels.Leaf.{Leaf}
use Rattle.nts_model.specs.declared.labels.Leaf.TheVariants as leaf
use Rattle.nts_model.specs.declared.labels.TyHead.{TyHead}
use Rattle.nts_model.specs.declared.labels.TyHead.TheVariants as ty
use Rattle.nts_model.specs.declared.labels.Label.TheVariants as label
use Rattle.nts_model.specs.Terms.Trees.{Tree, empty, more, node}
use Rattle.nts_store.specs.Growth.{tree_at}
use Rattle.nts_store.specs.declared.nodes.NodeId.{NodeId}
use Rattle.nts_text.specs.Names.{word_of_int, word_of_uint}
use Rattle.nts_text.specs.Spelled.{type_names, region_names}
use Rattle.nts_text.specs.declared.names.Signature.{Signature}
use Rattle.nts_text.specs.declared.names.Spellings.{Spellings}

-- what terms are printed with: their trees, the declared types and aliases, the parameters, and the names of
-- the variables that are left of a goal
pub record Lexicon : Type 0 where
  pub trees : List Tree
  pub types : List Signature
  pub aliases : List Signature
  pub parameters : Spellings
  pub variables : List (NodeId × List ℕ)

-- the types and the regions without a name, in order of first sight
pub record Seen : Type 0 where
  pub types : List NodeId
  pub regions : List NodeId

abbrev pub same_term : NodeId → NodeId → Bool
same_term a b = a.number == b.number

-- a type without a name is `?` and its number by first sight
abbrev pub IsUnnamedType : Seen → NodeId → List ℕ → Seen → Type 0
IsUnnamedType old t text new =
    (text ≡ codes "?" ++ decimal (position_or_len (same_term t) old.types)) × (new.types ≡ insert_key same_term old.types t) × (new.regions ≡ old.regions)

-- a region without a name is `'_` and its number by first sight
abbrev pub IsUnnamedRegion : Seen → NodeId → List ℕ → Seen → Type 0
IsUnnamedRegion old t text new =
    (text ≡ codes "'_" ++ decimal (position_or_len (same_term t) old.regions)) × (new.regions ≡ insert_key same_term old.regions t) × (new.types ≡ old.types)

-- the name of a leaf, if it has one
abbrev pub leaf_name : Spellings → List (NodeId × List ℕ) → NodeId → Leaf → Option (List ℕ)
leaf_name parameters variables t (leaf.Variable k i) = lookup (same_term t) variables
leaf_name parameters variables t (leaf.TyConstant (constant.Param i)) = slice_get (type_names parameters) i
leaf_name parameters variables t (leaf.Region (region.EarlyParam i)) = slice_get (region_names parameters) i
leaf_name parameters variables t (leaf.Region region.Static) = Some (codes "'static")
leaf_name parameters variables t l = None

-- regions and their variables
abbrev pub is_region_leaf : Leaf → Bool
is_region_leaf (leaf.Region r) = true
is_region_leaf (leaf.Variable kind.Region i) = true
is_region_leaf l = false

-- a leaf is its name, or it is numbered among the regions or among the types
abbrev pub IsLeafText : Lexicon → Leaf → Seen → NodeId → List ℕ → Seen → Type 0
IsLeafText n l old t text new =
    MatchOption (leaf_name n.parameters n.variables t l)
    (MatchBool (is_region_leaf l) (IsUnnamedRegion old t text new) (IsUnnamedType old t text new))
    (λ name. (text ≡ name) × (new ≡ old))

-- the name of a declared type or alias
abbrev pub type_name : List Signature → ℕ → List ℕ
type_name types i = option_map_or (λ s. s.name.items) (slice_get types i) []

-- .. by the head of its types
abbrev pub head_name : Lexicon → TyHead → Option (List ℕ)
head_name n (ty.Ctor i) = Some (type_name n.types i)
head_name n (ty.Alias i) = Some (type_name n.aliases i)
head_name n h = None

-- what stands between an argument and those behind it
abbrev pub separator : Tree → List ℕ
separator empty = []
separator t = codes ", "

-- arguments stand in brackets, if there are any
abbrev pub in_brackets : Tree → List ℕ → List ℕ
in_brackets empty text = text
in_brackets t text = codes "(" ++ text ++ codes ")"

-- a type or a region as it is written, or a list of arguments, where these were seen before it and
-- after it
abbrev pub IsText : Lexicon → Seen → Tree → List ℕ → Seen → Type 0
IsText n old empty text new = (text ≡ []) × (new ≡ old)
IsText n old (more a b) text new =
    (x y : List ℕ) × (between : Seen) × IsText n old a x between × IsText n between b y new × (text ≡ x ++ separator b ++ y)
IsText n old (node (label.Ty (ty.Ctor i)) (more (node l row) empty)) text new =
    (x : List ℕ) × IsText n old row x new × (text ≡ type_name n.types i ++ in_brackets row x)
IsText n old (node (label.Ty (ty.Alias i)) (more (node l row) empty)) text new =
    (x : List ℕ) × IsText n old row x new × (text ≡ type_name n.aliases i ++ in_brackets row x)
IsText n old (node (label.Ty (ty.Int i)) c) text new = (text ≡ word_of_int i) × (new ≡ old)
IsText n old (node (label.Ty (ty.Uint i)) c) text new = (text ≡ word_of_uint i) × (new ≡ old)
IsText n old (node (label.Leaf l) c) text new =
    (t : NodeId) × (tree_at n.trees t ≡ node (label.Leaf l) c) × IsLeafText n l old t text new
IsText n old other text new = (t : NodeId) × (tree_at n.trees t ≡ other) × IsUnnamedType old t text new
