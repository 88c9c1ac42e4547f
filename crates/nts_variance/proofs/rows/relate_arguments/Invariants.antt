use Rattle.std.specs.Prelude.{◌-◌}
use Rattle.nts_store.specs.Growth.{tree_at, Extends}
use Rattle.nts_terms.specs.Signatures.{variances_in}
use Rattle.nts_unify.specs.Entries.{KeepsHidden}
use Rattle.nts_variance.specs.Rows.{AreRelatedTo}
use Rattle.nts_variance.proofs.rows.relate_arguments.Given as goal

abbrev pub invariant-loop-i : goal.invariant-loop-i
invariant-loop-i l = record {
  extends : Extends l.initial.nodes l.nodes;
  changes : KeepsHidden l.initial.table l.table;
  going : AreRelatedTo (variances_in l.declarations) l.initial.nodes l.nodes l.initial.table.entries l.table.entries (tree_at l.initial.nodes l.left) (tree_at l.initial.nodes l.right) l.i l.goals.items;
}

abbrev pub decreases-loop-i : goal.decreases-loop-i
decreases-loop-i l = l.count - l.i
