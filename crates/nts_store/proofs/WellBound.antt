-- Nodes that list what they bind, by their children.
use Rattle.std.proofs.Common.{◌≡◌, ℕ, zero, suc, ◌<◌, ◌≤◌, List, [], ◌∷◌, length, get_or, drop, refl, arith}
use Rattle.nts_model.specs.declared.labels.TyHead.TheVariants as ty
use Rattle.nts_model.specs.declared.labels.ListHead.TheVariants as list
use Rattle.nts_model.specs.declared.labels.Label.{Label}
use Rattle.nts_model.specs.declared.labels.Label.TheVariants as label
use Rattle.std.specs.Prelude.{Some}
use Rattle.nts_model.specs.Terms.Trees.{Tree, empty, more, node, children, row_at, binders, kind_of, sort_list, shape, Meets}
use Rattle.nts_model.specs.Terms.Scoping.{listed_in, sorts_of, AllListed, ListsBound, IsWellBound}
use Rattle.nts_store.specs.declared.nodes.NodeId.{NodeId}
use Rattle.nts_store.specs.Growth.{tree_at, trees_at}
use Rattle.nts_store.proofs.Growing.{row_at-trees_at}

-- the list of a binder is its first child
first_list : (a : Tree) → kind_of a ≡ Some sort_list → listed_in a ≡ children a
first_list (node (label.List list.Sorts) ss) e = refl
first_list a e = absurd (cc e)

list_of_binder : (l : Label) (c : Tree) → 0 < binders l → Meets (shape l) c → sorts_of c ≡ children (row_at c 0)
list_of_binder (label.Ty ty.FnPtr) (more a b) h m = first_list a m.0
list_of_binder (label.Ty ty.FnPtr) empty h m = absurd m
list_of_binder (label.Ty ty.FnPtr) (node k d) h m = absurd m
list_of_binder (label.List list.Binder) (more a b) h m = first_list a m.0
list_of_binder (label.List list.Binder) empty h m = absurd m
list_of_binder (label.List list.Binder) (node k d) h m = absurd m
list_of_binder l c h m = absurd (omega (arith, h))

-- the children from a place on list what they bind, and of a binder they are of its list
pub record AreWellBoundFrom (ts : List Tree) (l : Label) (cs : List NodeId) (i : ℕ) : Type 0 where
  pub fits : i ≤ length cs
  pub well_bound : IsWellBound (trees_at ts (drop i cs))
  pub listed : 0 < binders l → AllListed (children (row_at (trees_at ts cs) 0)) 0 (trees_at ts (drop i cs))

from_lists : (k : ℕ) (c : Tree) → 0 < k → ListsBound k c → AllListed (sorts_of c) 0 c
from_lists zero c b h = absurd (omega (arith, b))
from_lists (suc k) c b h = h

-- each child of one that does
pub child_well_bound : (ts : List Tree) (cs : List NodeId) (i : ℕ) (c : NodeId) → i < length cs → get_or cs i c ≡ c → IsWellBound (trees_at ts cs) → IsWellBound (tree_at ts c)
child_well_bound ts [] i c h e w = absurd (omega arith)
child_well_bound ts (d ∷ cs) zero c h e w = rw e at w.0
child_well_bound ts (d ∷ cs) (suc i) c h e w = child_well_bound ts cs i c (omega arith) e w.1

row_listed : (ts : List Tree) (ss : Tree) (cs : List NodeId) (i : ℕ) (c : NodeId) → i < length cs → get_or cs i c ≡ c → AllListed ss 0 (trees_at ts cs) → AllListed ss 0 (tree_at ts c)
row_listed ts ss [] i c h e w = absurd (omega arith)
row_listed ts ss (d ∷ cs) zero c h e w = rw e at w.0
row_listed ts ss (d ∷ cs) (suc i) c h e w = row_listed ts ss cs i c (omega arith) e w.1

pub child_listed : (ts : List Tree) (l : Label) (cs : List NodeId) (i : ℕ) (c : NodeId) → 0 < binders l → Meets (shape l) (trees_at ts cs) → i < length cs → get_or cs i c ≡ c → IsWellBound (node l (trees_at ts cs))
    → AllListed (children (row_at (trees_at ts cs) 0)) 0 (tree_at ts c)
child_listed ts l cs i c b m h e w =
    row_listed ts (children (row_at (trees_at ts cs) 0)) cs i c h e (rw (list_of_binder l (trees_at ts cs) b m) at (from_lists (binders l) (trees_at ts cs) b w.0))

-- the first child
pub first_child : (ts : List Tree) (cs : List NodeId) (i : ℕ) (c : NodeId) → i < length cs → get_or cs 0 c ≡ c → row_at (trees_at ts cs) 0 ≡ tree_at ts c
first_child ts cs i c h e = row_at-trees_at ts cs 0 c (omega (arith, h)) e
