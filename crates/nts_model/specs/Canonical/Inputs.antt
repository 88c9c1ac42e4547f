-- Inputs, their canonical forms, and which inputs are alike.
use Rattle.std.specs.Prelude.{◌≡◌, ◌⊎◌, ◌↔◌, ℕ, Bool, true, false, cond, ◌==◌, List, [], map, Option, Some, None}
use Rattle.std.specs.List.{position_or_len}
use Rattle.nts_model.specs.declared.labels.Sort.{Sort}
use Rattle.nts_model.specs.declared.labels.Sort.TheVariants as sort
use Rattle.nts_model.specs.declared.labels.VariableKind.TheVariants as kind
use Rattle.nts_model.specs.declared.labels.FreeRegion.TheVariants as region
use Rattle.nts_model.specs.declared.labels.Leaf.{Leaf}
use Rattle.nts_model.specs.declared.labels.Leaf.TheVariants as leaf
use Rattle.nts_model.specs.Terms.Trees.{Tree, empty, more, any_label, is_canonical, IsFormed}
use Rattle.nts_model.specs.Terms.Substitutions.{leaf_tree, replace, Occurs, LeafSort, of_variable, of_constant, leaf_sort, Renaming, rename, filled}
use Rattle.nts_model.specs.Lists.{Among}
use Rattle.nts_model.specs.Canonical.Numbered.{number, seen, numbered, position, no_leaf, AreDistinct}

-- a goal with the hidden types of its table, a row of pairs of an alias and its type, and the sub root of each
-- type variable
pub record Input : Type 0 where
  pub environment : Tree
  pub predicate : Tree
  pub hidden : Tree
  pub sub_root : ℕ → ℕ

-- what a position of a canonical input stands for: a variable of a universe, where a type variable says which
-- position is the first of its sub root; or a placeholder of a universe, whose name is a number
pub data PositionKind : Type 0 where
  type_variable : (universe sub_root : ℕ) → PositionKind
  integer_variable float_variable : PositionKind
  const_variable : (universe : ℕ) → PositionKind
  region_variable : (universe : ℕ) → PositionKind
  placeholder : Sort → (universe name : ℕ) → PositionKind

-- a goal in which positions stand for leaves, and what they stand for
pub record CanonicalInput : Type 0 where
  pub environment : Tree
  pub predicate : Tree
  pub hidden : Tree
  pub kinds : List PositionKind

-- the sub root of a leaf that is a type variable
abbrev pub sub_root_of : (ℕ → ℕ) → Leaf → Option ℕ
sub_root_of r (leaf.Variable kind.Ty n) = Some (r n)
sub_root_of r l = None

abbrev pub are_one : Option ℕ → Option ℕ → Bool
are_one (Some n) (Some m) = n == m
are_one n m = false

-- the two leaves are type variables of one sub root
abbrev pub share : (ℕ → ℕ) → Leaf → Leaf → Bool
share r l m = are_one (sub_root_of r l) (sub_root_of r m)

-- what the position of a leaf of this sort stands for, where n is its number, and f that of the first type variable
-- of its sub root. All universes are the root, and a region is a placeholder, a region variable too
abbrev pub position_kind_at : LeafSort → ℕ → ℕ → PositionKind
position_kind_at (of_variable kind.Ty) f n = type_variable 0 f
position_kind_at (of_variable kind.Int) f n = integer_variable
position_kind_at (of_variable kind.Float) f n = float_variable
position_kind_at (of_variable kind.Const) f n = const_variable 0
position_kind_at (of_variable kind.Region) f n = placeholder sort.Region 0 n
position_kind_at (of_constant s) f n = placeholder s 0 n

abbrev pub position_kind : (ℕ → ℕ) → List Leaf → Leaf → PositionKind
position_kind r s l = position_kind_at (leaf_sort l) (position_or_len (share r l) s) (number s l)

-- in an environment 'static stays
abbrev pub is_static : Leaf → Bool
is_static (leaf.Region region.Static) = true
is_static l = false

-- the leaves in the order of first sight: of the environment, then of the predicate, then of the hidden types
abbrev pub after_environment : Input → List Leaf
after_environment i = seen is_static [] i.environment

abbrev pub after_predicate : Input → List Leaf
after_predicate i = seen no_leaf (after_environment i) i.predicate

abbrev pub originals : Input → List Leaf
originals i = seen no_leaf (after_predicate i) i.hidden

-- the canonical form: each leaf's number stands in its place
abbrev pub canonical_of : Input → CanonicalInput
canonical_of i =
    record {
      environment = numbered is_static [] i.environment;
      predicate = numbered no_leaf (after_environment i) i.predicate;
      hidden = numbered no_leaf (after_predicate i) i.hidden;
      kinds = map (position_kind i.sub_root (originals i)) (originals i);
    }

-- in an environment 'static is a label and no leaf; a position, which no input holds, stands for the label
abbrev pub label_or_leaf : (Leaf → Bool) → Leaf → Tree
label_or_leaf is_label l = cond (is_label l) (position sort.Region 0) (leaf_tree l)

abbrev pub static_as_label : Tree → Tree
static_as_label = replace (label_or_leaf is_static)

-- the leaf stands in the input, where 'static of an environment is none
abbrev pub OccursIn : Leaf → Input → Type 0
OccursIn l i = ((is_static l ≡ false) × Occurs l i.environment) ⊎ (Occurs l i.predicate ⊎ Occurs l i.hidden)

-- the renaming maps the one input to the other, and keeps the partition of its type variables by sub root: leaves
-- share one exactly if their images do
pub record Renames (ρ : Renaming) (a b : Input) : Type 0 where
  pub environment : rename ρ (static_as_label a.environment) ≡ static_as_label b.environment
  pub predicate : rename ρ a.predicate ≡ b.predicate
  pub hidden : rename ρ a.hidden ≡ b.hidden
  pub partition : (l m : Leaf) → OccursIn l a → OccursIn m a → share a.sub_root l m ≡ share b.sub_root (ρ.to l) (ρ.to m)

abbrev pub AreAlikeInputs : Input → Input → Type 0
AreAlikeInputs a b = (ρ : Renaming) × Renames ρ a b

-- an input's trees are terms without positions
abbrev pub whole : Input → Tree
whole i = more i.environment (more i.predicate (more i.hidden empty))

pub record IsInput (i : Input) : Type 0 where
  pub formed : IsFormed (whole i)
  pub no_positions : any_label is_canonical (whole i) ≡ false

-- canonical forms are equal exactly where inputs are alike
abbrev pub FormsTellInputs : Type 0
FormsTellInputs = (a b : Input) → IsInput a → IsInput b → (canonical_of a ≡ canonical_of b) ↔ AreAlikeInputs a b

-- the trees of a canonical input with values in place of its positions
abbrev pub whole_of : CanonicalInput → Tree
whole_of c = more c.environment (more c.predicate (more c.hidden empty))

-- with the originals in place of positions a canonical form is the input
abbrev pub OriginalsGiveInput : Type 0
OriginalsGiveInput = (i : Input) → IsInput i → filled (map leaf_tree (originals i)) (whole_of (canonical_of i)) ≡ whole i

-- the originals are distinct, and they are the leaves of the input
abbrev pub OriginalsAreLeaves : Type 0
OriginalsAreLeaves = (i : Input) → IsInput i → AreDistinct (originals i) × ((l : Leaf) → Among (originals i) l ↔ OccursIn l i)

-- an input made of a canonical one: leaves in place of positions, and a sub root for each type variable
abbrev pub made_of : CanonicalInput → List Leaf → (ℕ → ℕ) → Input
made_of c s r =
    record {
      environment = filled (map leaf_tree s) c.environment;
      predicate = filled (map leaf_tree s) c.predicate;
      hidden = filled (map leaf_tree s) c.hidden;
      sub_root = r;
    }

-- leaves of the kinds of a canonical input: no two are one, none is 'static, and type variables share sub roots as
-- the kinds say
pub record HaveKinds (c : CanonicalInput) (s : List Leaf) (r : ℕ → ℕ) : Type 0 where
  pub distinct : AreDistinct s
  pub no_static : (l : Leaf) → Among s l → is_static l ≡ false
  pub kinds : map (position_kind r s) s ≡ c.kinds

-- an input made of a canonical form has that form
abbrev pub MakingGivesForm : Type 0
MakingGivesForm = (i : Input) (s : List Leaf) (r : ℕ → ℕ) → IsInput i → HaveKinds (canonical_of i) s r → canonical_of (made_of (canonical_of i) s r) ≡ canonical_of i
