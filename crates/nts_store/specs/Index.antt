-- Where the nodes of a store are found.
use Rattle.std.specs.Prelude.{◌≡◌, ℕ, List, Option, Some, None, slice_get}
use Rattle.std.specs.HashMap.{get}
use Rattle.nts_store.specs.declared.nodes.Node.{Node}
use Rattle.nts_store.specs.declared.index.Shape.{Shape}
use Rattle.nts_store.specs.declared.index.Index.{Index}
use Rattle.nts_store.specs.contracts.index.ShapePartialEq.TheImpl as shape_eq
use Rattle.nts_store.specs.Children.{listed}

-- the node has this label and these children
pub record HasShape (n : Node) (s : Shape) : Type 0 where
  pub label : n.label ≡ s.label
  pub children : listed n.children ≡ listed s.children

-- .. the node at a place, if there is one
abbrev pub IsOfShape : Option Node → Shape → Type 0
IsOfShape None s = ⊥
IsOfShape (Some n) s = HasShape n s

abbrev pub HasShapeAt : List Node → ℕ → Shape → Type 0
HasShapeAt ns i s = IsOfShape (slice_get ns i) s

-- the number that is kept for a shape
abbrev pub number_in : Index → Shape → Option ℕ
number_in x s = get shape_eq.ghosts.eq x.numbers s

-- what is kept for a shape is the number of a node that has it, and each node is found by its shape
pub record IsIndex (x : Index) : Type 0 where
  pub found : (s : Shape) (i : ℕ) → number_in x s ≡ Some i → HasShapeAt x.nodes.items i s
  pub all : (s : Shape) (i : ℕ) → HasShapeAt x.nodes.items i s → number_in x s ≡ None → ⊥
