-- What a fresh region owes a part.
use Rattle.std.proofs.Common.{Bool, true, false, List}
use Rattle.nts_model.specs.declared.labels.Variance.{Variance}
use Rattle.nts_model.specs.declared.labels.Variance.TheVariants as variance
use Rattle.nts_model.specs.declared.labels.Relation.TheVariants as relation
use Rattle.nts_model.specs.Terms.Trees.{Tree}
use Rattle.nts_store.specs.declared.nodes.NodeId.{NodeId}
use Rattle.nts_unify.specs.Entries.{Entries}
use Rattle.nts_unify.specs.Reading.{content_of, IsConstraint}
use Rattle.nts_variance.specs.Varying.{pair_in, constraint_of_pair}

-- two regions that may be equated may be related in either order and by each variance
pub pair_constraint : (us : List Tree) (e : Entries) (z : Bool) (v : Variance) (r t : NodeId) → IsConstraint us (content_of us e) (record { relation = relation.Equal; left = r; right = t; is_visible = true }) → IsConstraint us (content_of us e) (constraint_of_pair (pair_in z v r t))
pair_constraint us e false variance.Invariant r t h = h
pair_constraint us e true variance.Invariant r t h = record { left_in = h.right_in; right_in = h.left_in; left_known = h.right_known; right_known = h.left_known; left_sort = h.right_sort; right_sort = h.left_sort; regions = (h.regions.1, h.regions.0) }
pair_constraint us e false variance.Covariant r t h = record { left_in = h.left_in; right_in = h.right_in; left_known = h.left_known; right_known = h.right_known; left_sort = h.left_sort; right_sort = h.right_sort; regions = tt }
pair_constraint us e false variance.Contravariant r t h = record { left_in = h.right_in; right_in = h.left_in; left_known = h.right_known; right_known = h.left_known; left_sort = h.right_sort; right_sort = h.left_sort; regions = tt }
pair_constraint us e true variance.Covariant r t h = record { left_in = h.left_in; right_in = h.right_in; left_known = h.left_known; right_known = h.right_known; left_sort = h.left_sort; right_sort = h.right_sort; regions = tt }
pair_constraint us e true variance.Contravariant r t h = record { left_in = h.right_in; right_in = h.left_in; left_known = h.right_known; right_known = h.left_known; left_sort = h.right_sort; right_sort = h.left_sort; regions = tt }
