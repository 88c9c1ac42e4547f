use Rattle.std.specs.Prelude.{◌≤◌, length}
use Rattle.nts_store.specs.Growth.{Extends}
use Rattle.nts_terms.specs.Signatures.{variances_in}
use Rattle.nts_unify.specs.Entries.{KeepsHidden}
use Rattle.nts_unify.specs.Reading.{content_of}
use Rattle.nts_variance.specs.Steps.{stacked}
use Rattle.nts_variance.specs.Terms.{pair_at}
use Rattle.nts_model.specs.Tables.Contents.{Content}
use Rattle.nts_variance.specs.Due.{IsUnvaluedPair}
use Rattle.nts_variance.specs.Taking.{left_sizes, IsCall, AreDueSince}
use Rattle.nts_variance.proofs.splitting.run.Given as goal

abbrev pub invariant-loop-pair : goal.invariant-loop-pair
invariant-loop-pair l = record {
  extends : Extends l.initial.nodes l.nodes;
  changes : KeepsHidden l.initial.table l.table;
  due : (c : Content) → length c.slots ≤ length (content_of l.initial.nodes l.initial.table.entries).slots → IsUnvaluedPair c (pair_at l.initial.nodes l.fn.root) → AreDueSince c l.nodes l.table.entries l.call.pairs.items l.call.goals.items;
  going : IsCall (variances_in l.declarations) l.initial.nodes l.nodes l.initial.table.entries l.table.entries l.fn.root l.call.pairs.items l.call.met.keys l.call.equal.items l.call.goals.items;
}

abbrev pub decreases-loop-pair : goal.decreases-loop-pair
decreases-loop-pair l = left_sizes (stacked (pair_at l.nodes) l.call.pairs.items)
