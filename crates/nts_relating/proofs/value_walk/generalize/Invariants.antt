use Rattle.std.proofs.Common.{◌≡◌}
use Rattle.nts_store.specs.Growth.{tree_at, Extends}
use Rattle.nts_unify.specs.Reading.{content_of}
use Rattle.nts_relating.specs.Parts.{IsGeneralizingWalk, WalkGrows, made_at, task_weights}
use Rattle.nts_relating.proofs.value_walk.generalize.Given as goal
use Rattle.nts_unify.specs.Entries.{KeepsHidden}

abbrev pub invariant-loop-task : goal.invariant-loop-task
invariant-loop-task l = record {
  extends : Extends l.initial.nodes l.nodes;
  changes : KeepsHidden l.initial.table l.table;
  root : l.walk.root ≡ record { term = l.fn.t; binders = l.target.binders };
  walk : IsGeneralizingWalk l.nodes l.table.entries l.target.variable l.target.universe (record { term = l.fn.t; binders = l.target.binders }) l.walk.tasks.items (made_at l.walk.made);
  grows : WalkGrows (content_of l.initial.nodes l.initial.table.entries) (content_of l.nodes l.table.entries) l.target.variable l.target.universe (tree_at l.initial.nodes l.fn.t);
}

abbrev pub decreases-loop-task : goal.decreases-loop-task
decreases-loop-task l = task_weights l.nodes (content_of l.nodes l.table.entries) l.walk.tasks.items
