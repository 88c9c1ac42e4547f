-- A list of trees in which terms are places: what callers of a store read.
use Rattle.std.specs.Prelude.{◌≡◌, ℕ, ◌≤◌, ◌<◌, List, [], ◌∷◌, length, get_or}
use Rattle.nts_model.specs.Terms.Trees.{Tree, empty, more}
use Rattle.nts_store.specs.declared.nodes.NodeId.{NodeId}

-- the tree of a term
abbrev pub tree_at : List Tree → NodeId → Tree
tree_at ts t = get_or ts t.number empty

-- the tree of a list of terms
abbrev pub trees_at : List Tree → List NodeId → Tree
trees_at ts [] = empty
trees_at ts (c ∷ cs) = more (tree_at ts c) (trees_at ts cs)

-- the term is of the store
abbrev pub IsIn : List Tree → NodeId → Type 0
IsIn ts t = t.number < length ts

abbrev pub AllIn : List Tree → List NodeId → Type 0
AllIn ts [] = Unit {0}
AllIn ts (c ∷ cs) = IsIn ts c × AllIn ts cs

-- the terms stand before that place
abbrev pub AllBelow : ℕ → List NodeId → Type 0
AllBelow n [] = Unit {0}
AllBelow n (c ∷ cs) = (c.number < n) × AllBelow n cs

-- each old term keeps its tree
pub record Extends (old new : List Tree) : Type 0 where
  pub longer : length old ≤ length new
  pub kept : (t : NodeId) → IsIn old t → tree_at new t ≡ tree_at old t

-- no tree stands twice
abbrev pub AreApart : List Tree → Type 0
AreApart ts = (i j : ℕ) → i < length ts → j < length ts → get_or ts i empty ≡ get_or ts j empty → i ≡ j

-- the one term of the store with this tree
abbrev pub IsTheOne : List Tree → NodeId → Type 0
IsTheOne ts t = (u : NodeId) → IsIn ts u → tree_at ts u ≡ tree_at ts t → u ≡ t
