-- What a term is once positions stand for its leaves.
use Rattle.std.specs.Prelude.{◌≡◌, Bool, true, false, cond, List, Some, refl}
use Rattle.nts_model.specs.declared.labels.Leaf.{Leaf}
use Rattle.nts_model.specs.declared.labels.Label.{Label}
use Rattle.nts_model.specs.declared.labels.Label.TheVariants as label
use Rattle.nts_model.specs.Terms.Trees.{Tree, empty, more, node, kind_of, kind_of_label, of_sort, sort_of_leaf}
use Rattle.nts_model.specs.Terms.Substitutions.{leaf_tree, put, replace}
use Rattle.nts_model.specs.Canonical.Numbered.{number, position, numbered_leaf}

-- a position is of the sort of its leaf
kind_of-position : (b : Bool) (l : Leaf) (s : List Leaf) → kind_of (cond b (leaf_tree l) (position (sort_of_leaf l) (number s l))) ≡ Some (of_sort (sort_of_leaf l))
kind_of-position true l s = refl
kind_of-position false l s = refl

kind_of-put : (stays : Leaf → Bool) (s : List Leaf) (l : Label) (c : Tree) → kind_of (put (numbered_leaf stays s) l c) ≡ Some (kind_of_label l)
kind_of-put stays s (label.Leaf x) c = kind_of-position (stays x) x s
kind_of-put stays s (label.Bound o i n) c = refl
kind_of-put stays s (label.Ty x) c = refl
kind_of-put stays s (label.Const x) c = refl
kind_of-put stays s (label.Clause x) c = refl
kind_of-put stays s (label.Predicate x) c = refl
kind_of-put stays s (label.List x) c = refl

pub kind_of-numbered : (stays : Leaf → Bool) (s : List Leaf) (t : Tree) → kind_of (replace (numbered_leaf stays s) t) ≡ kind_of t
kind_of-numbered stays s empty = refl
kind_of-numbered stays s (more a b) = refl
kind_of-numbered stays s (node l c) = kind_of-put stays s l (replace (numbered_leaf stays s) c)
