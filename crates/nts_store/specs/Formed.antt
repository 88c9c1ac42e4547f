-- The trees of a store are terms.
use Rattle.std.specs.Prelude.{List}
use Rattle.nts_model.specs.Terms.Trees.{Tree, IsFormed}
use Rattle.nts_store.specs.declared.nodes.NodeId.{NodeId}
use Rattle.nts_store.specs.Growth.{tree_at, IsIn}

-- each node has the children of its label
abbrev pub AreFormed : List Tree → Type 0
AreFormed ts = (t : NodeId) → IsIn ts t → IsFormed (tree_at ts t)
