-- What binders bind: each bound variable is of the list of sorts of its binder.
use Rattle.std.specs.Prelude.{◌≡◌, ℕ, zero, suc, ◌+◌, Some}
use Rattle.nts_model.specs.declared.labels.Sort.{Sort}
use Rattle.nts_model.specs.declared.labels.BoundVarIndexKind.TheVariants as index
use Rattle.nts_model.specs.declared.labels.ListHead.TheVariants as list
use Rattle.nts_model.specs.declared.labels.Label.{Label}
use Rattle.nts_model.specs.declared.labels.Label.TheVariants as label
use Rattle.nts_model.specs.Terms.Trees.{Tree, empty, more, node, label_of, row_at, binders}

-- the sorts that a binder lists: its first child is the list of them
abbrev pub listed_by : Label → Tree → Tree
listed_by (label.List list.Sorts) ss = ss
listed_by l ss = empty

abbrev pub listed_in : Tree → Tree
listed_in empty = empty
listed_in (more a b) = empty
listed_in (node l ss) = listed_by l ss

abbrev pub sorts_of : Tree → Tree
sorts_of c = listed_in (row_at c 0)

-- the list has the sort at the place
abbrev pub HasSortAt : Tree → ℕ → Sort → Type 0
HasSortAt ss n s = label_of (row_at ss n) ≡ Some (label.List (list.Sort s))

-- a variable of the binder d binders out is of the list: its sort stands at its index
abbrev pub IsListed : Tree → ℕ → Label → Type 0
IsListed ss d (label.Bound s (index.Bound e) n) = e ≡ d → HasSortAt ss n s
IsListed ss d l = Unit {0}

-- each bound variable of a tree that names the binder d binders out is of its list
abbrev pub AllListed : Tree → ℕ → Tree → Type 0
AllListed ss d empty = Unit {0}
AllListed ss d (more a b) = AllListed ss d a × AllListed ss d b
AllListed ss d (node l c) = IsListed ss d l × AllListed ss (d + binders l) c

-- what the binders around the first tree list of it they list of the second
abbrev pub KeepsListed : Tree → Tree → Type 0
KeepsListed s t = (ss : Tree) (d : ℕ) → AllListed ss d s → AllListed ss d t

-- a node that binds lists what it binds
abbrev pub ListsBound : ℕ → Tree → Type 0
ListsBound zero c = Unit {0}
ListsBound (suc k) c = AllListed (sorts_of c) 0 c

-- each binder of the tree lists what it binds
abbrev pub IsWellBound : Tree → Type 0
IsWellBound empty = Unit {0}
IsWellBound (more a b) = IsWellBound a × IsWellBound b
IsWellBound (node l c) = ListsBound (binders l) c × IsWellBound c
