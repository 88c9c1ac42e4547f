-- Worlds: what the variables and the free regions of a table may stand for, and which worlds a table allows.
use Rattle.std.specs.Prelude.{◌≡◌, ◌⊎◌, ℕ, ◌<◌, Bool, true, ◌==◌, if◌then◌else◌, List, [], ◌∷◌, Option, Some, None}
use Rattle.nts_model.specs.declared.labels.Relation.{Relation}
use Rattle.nts_model.specs.declared.labels.Relation.TheVariants as relation
use Rattle.nts_model.specs.declared.labels.VariableKind.{VariableKind}
use Rattle.nts_model.specs.declared.labels.FreeRegion.{FreeRegion}
use Rattle.nts_model.specs.declared.labels.FreeRegion.TheVariants as region
use Rattle.nts_model.specs.declared.labels.Leaf.{Leaf}
use Rattle.nts_model.specs.declared.labels.Leaf.TheVariants as leaf
use Rattle.nts_model.specs.declared.labels.Label.{Label}
use Rattle.nts_model.specs.declared.labels.Label.TheVariants as label
use Rattle.nts_model.specs.Terms.Trees.{Tree, empty, more, node, IsClosed, IsFormed, variable_of}
use Rattle.nts_model.specs.Tables.Contents.{Content, SlotState, unset, link, known, Recorded, state_of, universe_of, kind_at}
use Rattle.nts_model.specs.Tables.Resolving.{number_of, Knows}
use Rattle.nts_model.specs.Tables.Levels.{term_level, IfNamesAll}
use Rattle.nts_model.specs.Terms.Fitting.{Fits}

-- a tree for each variable, a region for each free region, and which types and regions outlive which regions
pub record World : Type 0 where
  pub tree : ℕ → Tree
  pub region : FreeRegion → FreeRegion
  pub outlives : Tree → Tree → Bool

-- 'static, the erased and the error region stand for themselves
pub record KeepsFixedRegions (w : World) : Type 0 where
  pub static : w.region region.Static ≡ region.Static
  pub erased : w.region region.Erased ≡ region.Erased
  pub error : w.region region.Error ≡ region.Error

-- a free region is renamed
abbrev pub renamed_leaf : World → Leaf → Leaf
renamed_leaf w (leaf.Region r) = leaf.Region (w.region r)
renamed_leaf w l = l

abbrev pub renamed : World → Label → Label
renamed w (label.Leaf l) = label.Leaf (renamed_leaf w l)
renamed w l = l

abbrev pub placed : World → Option ℕ → Label → Tree → Tree
placed w (Some n) l c = w.tree n
placed w None l c = node (renamed w l) c

-- the instance of a tree: each variable gives place to its tree, and each free region to the world's
abbrev pub inst : World → Tree → Tree
inst w empty = empty
inst w (more a b) = more (inst w a) (inst w b)
inst w (node l c) = placed w (number_of (variable_of l)) l (inst w c)

-- a variable has the tree of the variable that it is one with, or its value's instance
abbrev pub SolvesState : World → ℕ → Option SlotState → Type 0
SolvesState w n None = Unit {0}
SolvesState w n (Some unset) = Unit {0}
SolvesState w n (Some (link m)) = w.tree n ≡ w.tree m
SolvesState w n (Some (known t)) = w.tree n ≡ inst w t

-- the relation is true of two trees; each region outlives itself
abbrev pub IsTrueOf : World → Relation → Tree → Tree → Type 0
IsTrueOf w relation.Equal a b = a ≡ b
IsTrueOf w relation.RegionOutlives a b = (a ≡ b) ⊎ (w.outlives a b ≡ true)
IsTrueOf w relation.TypeOutlives a b = w.outlives a b ≡ true

abbrev pub IsMet : World → Recorded → Type 0
IsMet w x = IsTrueOf w x.relation (inst w x.left) (inst w x.right)

abbrev pub AreMet : World → List Recorded → Type 0
AreMet w [] = Unit {0}
AreMet w (x ∷ xs) = IsMet w x × AreMet w xs

-- each variable's universe names its tree, where f gives universes
pub record IsNameable (f : Label → Option ℕ) (c : Content) (w : World) : Type 0 where
  pub each : (n : ℕ) → IfNamesAll f (universe_of c n) (w.tree n)

-- a closed term that a variable of the kind may stand for
pub record IsValue (k : VariableKind) (t : Tree) : Type 0 where
  pub fits : Fits k t
  pub closed : IsClosed t
  pub formed : IsFormed t

-- each variable of the table has such a tree
pub record IsFitting (c : Content) (w : World) : Type 0 where
  pub each : (n : ℕ) (k : VariableKind) → kind_at c n ≡ Some k → IsValue k (w.tree n)

-- the world makes true what the table says, and its trees fit their variables and are nameable but for their regions
pub record Solves (c : Content) (w : World) : Type 0 where
  pub values : (n : ℕ) → SolvesState w n (state_of c n)
  pub constraints : AreMet w c.constraints
  pub nameable : IsNameable term_level c w
  pub fitting : IsFitting c w

-- the same for the variables below n, for regions, and for what outlives what
pub record Agrees (n : ℕ) (w v : World) : Type 0 where
  pub trees : (m : ℕ) → m < n → v.tree m ≡ w.tree m
  pub regions : (r : FreeRegion) → v.region r ≡ w.region r
  pub outlives : (a b : Tree) → v.outlives a b ≡ w.outlives a b

-- the world with another tree for the variable n
abbrev pub with_tree : World → ℕ → Tree → World
with_tree w n t = record w { tree = λ m. if m == n then t else w.tree m }

-- the sides of the constraints are of the table
abbrev pub KnowsAll : Content → List Recorded → Type 0
KnowsAll c [] = Unit {0}
KnowsAll c (x ∷ xs) = Knows c x.left × Knows c x.right × KnowsAll c xs
