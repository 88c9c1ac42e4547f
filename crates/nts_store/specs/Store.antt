-- What the nodes of a store stand for.
use Rattle.std.specs.Prelude.{◌≡◌, ◌↔◌, IsTrue, List, [], ◌∷◌, ◌++◌}
use Rattle.nts_model.specs.Terms.Trees.{Tree, node, shape, Meets}
use Rattle.nts_model.specs.Terms.Scoping.{IsWellBound}
use Rattle.nts_store.specs.declared.nodes.Node.{Node}
use Rattle.nts_store.specs.TypeFlags.{flags_of}
use Rattle.nts_store.specs.Growth.{trees_at, AllIn, AreApart}
use Rattle.nts_store.specs.Children.{listed}

abbrev pub tree_of_node : List Tree → Node → Tree
tree_of_node ts n = node n.label (trees_at ts (listed n.children))

-- the trees of the nodes that stand after those of `ts`
abbrev pub grown : List Tree → List Node → List Tree
grown ts [] = ts
grown ts (n ∷ ns) = grown (ts ++ tree_of_node ts n ∷ []) ns

abbrev pub trees : List Node → List Tree
trees ns = grown [] ns

-- the children stand in the store and fit the label, and what is kept of the tree is true of it
pub record IsNode (ts : List Tree) (n : Node) : Type 0 where
  pub all : AllIn ts (listed n.children)
  pub formed : Meets (shape n.label) (trees_at ts (listed n.children))
  pub flags : n.flags ≡ flags_of (tree_of_node ts n)
  pub well_bound : IsTrue n.is_well_bound ↔ IsWellBound (tree_of_node ts n)

-- each node is one over those before it, where `ts` stand before all
abbrev pub IsGrown : List Tree → List Node → Type 0
IsGrown ts [] = Unit {0}
IsGrown ts (n ∷ ns) = IsNode ts n × IsGrown (ts ++ tree_of_node ts n ∷ []) ns

pub record IsShared (ns : List Node) : Type 0 where
  pub ordered : IsGrown [] ns
  pub apart : AreApart (trees ns)
