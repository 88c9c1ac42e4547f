use Rattle.std.specs.Prelude.{[], ◌≤◌, length}
use Rattle.nts_store.specs.Growth.{Extends}
use Rattle.nts_terms.specs.Signatures.{variances_in}
use Rattle.nts_unify.specs.Entries.{KeepsHidden}
use Rattle.nts_unify.specs.Reading.{content_of}
use Rattle.nts_model.specs.Tables.Contents.{Content}
use Rattle.nts_variance.specs.Terms.{pair_at}
use Rattle.nts_variance.specs.Due.{IsUnvaluedPair}
use Rattle.nts_variance.specs.Taking.{IsCall, AreDueSince}
use Rattle.nts_variance.specs.Equating.{AreInvariant}
use Rattle.std.specs.Prelude.{◌≡◌}
use Rattle.nts_variance.proofs.equating.relate_pair.Given as goal

abbrev pub invariant-loop-pair : goal.invariant-loop-pair
invariant-loop-pair l = record {
  extends : Extends l.fn.nodes l.nodes;
  changes : KeepsHidden l.fn.table l.table;
  met : l.call.met.keys ≡ [];
  invariant : AreInvariant l.call.pairs.items;
  due : (c : Content) → length c.slots ≤ length (content_of l.fn.nodes l.fn.table.entries).slots → IsUnvaluedPair c (pair_at l.fn.nodes l.fn.root) → AreDueSince c l.nodes l.table.entries [] l.call.goals.items;
  going : IsCall (variances_in l.declarations) l.fn.nodes l.nodes l.fn.table.entries l.table.entries l.fn.root l.call.pairs.items [] l.equal.items l.call.goals.items;
}

abbrev pub decreases-loop-pair : goal.decreases-loop-pair
decreases-loop-pair l = length l.equal.items
