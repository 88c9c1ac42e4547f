-- The sorts of labels, and places among children.
use Rattle.std.specs.Prelude.{Option, Some, None}
use Rattle.nts_model.specs.declared.labels.Sort.{Sort}
use Rattle.nts_model.specs.Terms.Trees.{Tree, empty, more, node, shape, Meets, NodeKind, of_sort}

-- the sort of a term, if it is a type, a region or a const
abbrev pub sort_of_kind : NodeKind → Option Sort
sort_of_kind (of_sort s) = Some s
sort_of_kind k = None

-- each child may stand at its place
abbrev pub ChildrenFit : Tree → Type 0
ChildrenFit empty = Unit {0}
ChildrenFit (more a b) = Unit {0}
ChildrenFit (node l c) = Meets (shape l) c
