-- The trees of a store are terms.
use Rattle.std.proofs.Common.{ℕ, zero, suc, ◌<◌, List, [], ◌∷◌, ◌++◌, length, get_or, arith}
use Rattle.nts_model.specs.Terms.Trees.{Tree, empty, IsFormed}
use Rattle.nts_store.specs.declared.nodes.NodeId.{NodeId}
use Rattle.nts_store.specs.declared.nodes.Node.{Node}
use Rattle.nts_store.specs.Growth.{trees_at, AllIn}
use Rattle.nts_store.specs.Formed.{AreFormed}
use Rattle.nts_store.specs.Store.{tree_of_node, grown, trees, IsGrown, IsShared}
use Rattle.nts_store.specs.Children.{listed}

abbrev EachFormed : List Tree → Type 0
EachFormed [] = Unit {0}
EachFormed (t ∷ ts) = IsFormed t × EachFormed ts

each_push : (ts : List Tree) (t : Tree) → EachFormed ts → IsFormed t → EachFormed (ts ++ t ∷ [])
each_push [] t h f = (f, tt)
each_push (x ∷ ts) t h f = (h.0, each_push ts t h.1 f)

each_at : (ts : List Tree) (i : ℕ) → EachFormed ts → i < length ts → IsFormed (get_or ts i empty)
each_at [] i h l = absurd (omega arith)
each_at (t ∷ ts) zero h l = h.0
each_at (t ∷ ts) (suc i) h l = each_at ts i h.1 (omega arith)

children_formed : (ts : List Tree) (cs : List NodeId) → EachFormed ts → AllIn ts cs → IsFormed (trees_at ts cs)
children_formed ts [] h a = tt
children_formed ts (c ∷ cs) h a = (each_at ts c.number h a.0, children_formed ts cs h a.1)

each_grown : (ts : List Tree) (ns : List Node) → EachFormed ts → IsGrown ts ns → EachFormed (grown ts ns)
each_grown ts [] h g = h
each_grown ts (n ∷ ns) h g =
    each_grown (ts ++ tree_of_node ts n ∷ []) ns (each_push ts (tree_of_node ts n) h (g.0.formed, children_formed ts (listed n.children) h g.0.all)) g.1

pub AreFormed-trees : (ns : List Node) → IsShared ns → AreFormed (trees ns)
AreFormed-trees ns s = λ t h. each_at (trees ns) t.number (each_grown [] ns tt s.ordered) h
