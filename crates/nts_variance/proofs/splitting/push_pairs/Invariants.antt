use Rattle.std.specs.Prelude.{◌≡◌, ◌≤◌, ◌++◌}
use Rattle.nts_model.specs.Terms.Trees.{row_length}
use Rattle.nts_model.specs.Tables.Contents.{Content}
use Rattle.nts_model.specs.Tables.Resolving.{Knows}
use Rattle.nts_variance_model.specs.Variances.Forms.{variances_over, pairs_over}
use Rattle.nts_store.specs.Growth.{tree_at}
use Rattle.nts_terms.specs.Signatures.{variances_in}
use Rattle.nts_unify.specs.Knowing.{row_from}
use Rattle.nts_variance.specs.Steps.{stacked}
use Rattle.nts_variance.specs.Parts.{form_of_tree, parts_of, variances_from}
use Rattle.nts_variance.specs.Terms.{pair_at}
use Rattle.nts_variance.specs.Taking.{ArePairsLeft}
use Rattle.nts_variance.proofs.splitting.push_pairs.Given as goal

abbrev pub invariant-loop-i : goal.invariant-loop-i
invariant-loop-i l = record {
  within : l.i ≤ row_length (parts_of (tree_at l.nodes l.pair.left));
  pairs : stacked (pair_at l.nodes) l.pairs.items ≡ pairs_over l.pair.variance (variances_from l.i (variances_over (variances_in l.declarations) (form_of_tree (tree_at l.nodes l.pair.left)) (parts_of (tree_at l.nodes l.pair.left)))) (row_from l.i (parts_of (tree_at l.nodes l.pair.left))) (row_from l.i (parts_of (tree_at l.nodes l.pair.right))) ++ stacked (pair_at l.nodes) l.initial.pairs.items;
  known : (c : Content) → Knows c (tree_at l.nodes l.pair.left) → Knows c (tree_at l.nodes l.pair.right) → ArePairsLeft l.nodes c l.initial.pairs.items → ArePairsLeft l.nodes c l.pairs.items;
}

abbrev pub decreases-loop-i : goal.decreases-loop-i
decreases-loop-i l = l.i
