-- Trees in which closed trees took the place of others.
use Rattle.nts_model.specs.declared.labels.Leaf.{Leaf}
use Rattle.nts_model.specs.declared.labels.Label.{Label}
use Rattle.nts_model.specs.declared.labels.Label.TheVariants as label
use Rattle.nts_model.specs.Terms.Trees.{Tree, empty, more, node, IsClosed}
use Rattle.nts_model.specs.Terms.Scoping.{IsWellBound}

-- a closed tree whose binders list what they bind
abbrev pub IsPatch : Tree → Type 0
IsPatch t = IsClosed t × IsWellBound t

abbrev pub IsNoList : Label → Type 0
IsNoList (label.List h) = ⊥
IsNoList l = Unit {0}

-- the second tree is the first with such trees in some places, but for lists, and with other leaves
pub data IsPatched : Tree → Tree → Type 0 where
  patched : {l : Label} {c v : Tree} → IsNoList l → IsPatch v → IsPatched (node l c) v
  in_end : IsPatched empty empty
  in_row : {a b s t : Tree} → IsPatched a b → IsPatched s t → IsPatched (more a s) (more b t)
  in_node : {l : Label} {c d : Tree} → IsPatched c d → IsPatched (node l c) (node l d)
  in_leaf : {x y : Leaf} {c d : Tree} → IsPatched c d → IsPatched (node (label.Leaf x) c) (node (label.Leaf y) d)
