use Rattle.nts_store.specs.Growth.{Extends}
use Rattle.nts_unify.specs.Reading.{content_of}
use Rattle.nts_unify.specs.Changing.{unset_count}
use Rattle.nts_relating.specs.Relating.{all_sides_at, IsValid, IsMemo, Running}
use Rattle.nts_relating.proofs.relate.run_all.Given as goal
use Rattle.nts_unify.specs.Entries.{KeepsHidden}

abbrev pub invariant-loop-error : goal.invariant-loop-error
invariant-loop-error l = record {
  extends : Extends l.initial.nodes l.nodes;
  changes : KeepsHidden l.initial.table l.table;
  valid : IsValid l.nodes l.table.entries l.pairs.items;
  memo : IsMemo l.nodes l.table.entries l.pairs.items l.met.keys;
  running : Running (content_of l.initial.nodes l.initial.table.entries) (content_of l.nodes l.table.entries) (all_sides_at l.initial.nodes l.initial.pairs.items) (all_sides_at l.nodes l.pairs.items);
}

abbrev pub decreases-loop-error : goal.decreases-loop-error
decreases-loop-error l = unset_count (content_of l.nodes l.table.entries).slots
