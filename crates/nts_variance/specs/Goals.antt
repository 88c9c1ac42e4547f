-- The goals that relating leaves, as predicates.
use Rattle.std.specs.Prelude.{◌||◌, Bool, true, false, cond}
use Rattle.nts_model.specs.declared.labels.Variance.{Variance}
use Rattle.nts_model.specs.declared.labels.Variance.TheVariants as variance
use Rattle.nts_model.specs.declared.labels.PredicateHead.{PredicateHead}
use Rattle.nts_model.specs.declared.labels.PredicateHead.TheVariants as predicate
use Rattle.nts_model.specs.Terms.Trees.{Tree, node, is_alias}
use Rattle.nts_model.specs.Derivations.Related.{direction_of, directed}
use Rattle.nts_variance_model.specs.Variances.Relations.{Relating as Pair}
use Rattle.nts_variance.specs.declared.along.Relating.{Relating}

abbrev pub is_alias_node : Tree → Bool
is_alias_node (node l c) = is_alias l
is_alias_node t = false

-- the side that a Subtype goal calls expected stands left in the pair
abbrev pub expects_first : Variance → Bool
expects_first variance.Contravariant = false
expects_first v = true

-- what the predicate of a pair says: where a side is an alias, that the sides stand for one another, and else that one is a subtype
abbrev pub goal_head : Pair → PredicateHead
goal_head p = cond (is_alias_node p.left || is_alias_node p.right) (predicate.AliasRelate (direction_of p.variance)) (predicate.Subtype (expects_first p.variance))

-- the sides of a pair in the order of its goal, by terms of the store
abbrev pub in_order : Variance → Relating → Relating
in_order variance.Contravariant p = record { variance = p.variance; left = p.right; right = p.left }
in_order v p = p

abbrev pub ordered : Relating → Relating
ordered p = in_order p.variance p

abbrev pub goal_of : Pair → Tree
goal_of p = directed (goal_head p) p.variance p.left p.right
