use Rattle.nts_store.specs.Growth.{Extends}
use Rattle.nts_unify.specs.Reading.{content_of}
use Rattle.nts_relating.specs.Relating.{all_sides_at, total, IsValid, IsMemo, Running}
use Rattle.nts_relating.proofs.relate.run.Given as goal
use Rattle.nts_unify.specs.Entries.{KeepsHidden}

abbrev pub invariant-loop-pair : goal.invariant-loop-pair
invariant-loop-pair l = record {
  extends : Extends l.initial.nodes l.nodes;
  changes : KeepsHidden l.initial.table l.table;
  valid : IsValid l.nodes l.table.entries l.pairs.items;
  memo : IsMemo l.nodes l.table.entries l.pairs.items l.met.keys;
  running : Running (content_of l.initial.nodes l.initial.table.entries) (content_of l.nodes l.table.entries) (all_sides_at l.initial.nodes l.initial.pairs.items) (all_sides_at l.nodes l.pairs.items);
}

abbrev pub decreases-loop-pair : goal.decreases-loop-pair
decreases-loop-pair l = total (content_of l.nodes l.table.entries) (all_sides_at l.nodes l.pairs.items)
