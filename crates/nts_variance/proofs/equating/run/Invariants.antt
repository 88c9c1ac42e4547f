use Rattle.std.specs.Prelude.{[]}
use Rattle.nts_model.specs.Tables.Contents.{Content}
use Rattle.nts_store.specs.Growth.{Extends}
use Rattle.nts_terms.specs.Signatures.{variances_in}
use Rattle.nts_unify.specs.Entries.{KeepsHidden}
use Rattle.nts_unify.specs.Reading.{content_of}
use Rattle.nts_variance.specs.Steps.{stacked}
use Rattle.nts_variance.specs.Terms.{pair_at}
use Rattle.nts_variance.specs.Taking.{AreDueSince}
use Rattle.nts_variance.specs.Equating.{sizes_of, AreEquating}
use Rattle.nts_variance.proofs.equating.run.Given as goal

abbrev pub invariant-loop-pair : goal.invariant-loop-pair
invariant-loop-pair l = record {
  extends : Extends l.initial.nodes l.nodes;
  changes : KeepsHidden l.initial.table l.table;
  due : (c : Content) → AreDueSince c l.initial.nodes l.initial.table.entries [] l.initial.call.goals.items → AreDueSince c l.nodes l.table.entries [] l.call.goals.items;
  going : AreEquating (variances_in l.declarations) l.initial.nodes l.nodes l.initial.table.entries l.table.entries l.initial.call.pairs.items l.call.pairs.items l.initial.call.met.keys l.call.met.keys l.initial.call.goals.items l.call.goals.items;
}

abbrev pub decreases-loop-pair : goal.decreases-loop-pair
decreases-loop-pair l = sizes_of (content_of l.nodes l.table.entries) (stacked (pair_at l.nodes) l.call.pairs.items)
