-- Leaves numbered at first sight.
use Rattle.std.specs.Prelude.{ℕ, Bool, false, cond, List, [], ◌∷◌}
use Rattle.std.specs.List.{position_or_len}
use Rattle.nts_model.specs.declared.labels.Sort.{Sort}
use Rattle.nts_model.specs.declared.labels.Leaf.{Leaf}
use Rattle.nts_model.specs.declared.labels.BoundVarIndexKind.TheVariants as index
use Rattle.nts_model.specs.declared.labels.Label.{Label}
use Rattle.nts_model.specs.declared.labels.Label.TheVariants as label
use Rattle.nts_model.specs.contracts.labels.LeafPartialEq.TheImpl as leaf_eq
use Rattle.nts_model.specs.Terms.Trees.{Tree, empty, more, node, sort_of_leaf}
use Rattle.nts_model.specs.Terms.Substitutions.{leaf_tree, put}
use Rattle.nts_model.specs.Lists.{Among}

-- the two leaves are one
abbrev pub same : Leaf → Leaf → Bool
same a b = leaf_eq.ghosts.eq a b

-- the number of a leaf: its place in the list of those that were seen, or the next one
abbrev pub number : List Leaf → Leaf → ℕ
number s l = position_or_len (same l) s

-- a leaf at the end, where it is new
abbrev pub added : List Leaf → Leaf → List Leaf
added [] l = l ∷ []
added (x ∷ xs) l = cond (same l x) (x ∷ xs) (x ∷ added xs l)

-- the leaves that were seen once a tree is read: a leaf adds itself, and those that stay are not seen
abbrev pub seen_node : (Leaf → Bool) → List Leaf → Label → List Leaf → List Leaf
seen_node stays s (label.Leaf l) inside = cond (stays l) s (added s l)
seen_node stays s l inside = inside

abbrev pub seen : (Leaf → Bool) → List Leaf → Tree → List Leaf
seen stays s empty = s
seen stays s (more a b) = seen stays (seen stays s a) b
seen stays s (node l c) = seen_node stays s l (seen stays s c)

-- the bound variable that is this position of a canonical value
abbrev pub position : Sort → ℕ → Tree
position s n = node (label.Bound s index.Canonical n) empty

-- what stands for a leaf: its number, or itself
abbrev pub numbered_leaf : (Leaf → Bool) → List Leaf → Leaf → Tree
numbered_leaf stays s l = cond (stays l) (leaf_tree l) (position (sort_of_leaf l) (number s l))

-- the tree with a number for each leaf, where those of the list were seen before
abbrev pub numbered : (Leaf → Bool) → List Leaf → Tree → Tree
numbered stays s empty = empty
numbered stays s (more a b) = more (numbered stays s a) (numbered stays (seen stays s a) b)
numbered stays s (node l c) = put (numbered_leaf stays s) l (numbered stays s c)

-- no leaf stays
abbrev pub no_leaf : Leaf → Bool
no_leaf l = false

-- no two of the list are one
abbrev pub AreDistinct : List Leaf → Type 0
AreDistinct [] = Unit {0}
AreDistinct (x ∷ xs) = (Among xs x → ⊥) × AreDistinct xs
