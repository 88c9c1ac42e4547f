use Rattle.nts_store.specs.Growth.{Extends}
use Rattle.nts_terms.specs.Signatures.{variances_in}
use Rattle.nts_unify.specs.Entries.{KeepsHidden}
use Rattle.nts_unify.specs.Reading.{content_of}
use Rattle.nts_variance.specs.Steps.{stacked}
use Rattle.nts_variance.specs.Walking.{step_weights}
use Rattle.nts_variance.specs.Terms.{step_at}
use Rattle.nts_variance.proofs.VaryTurns.{WalkRun}
use Rattle.nts_variance.proofs.vary_walk.vary.Given as goal

abbrev pub invariant-loop-task : goal.invariant-loop-task
invariant-loop-task l = record {
  extends : Extends l.initial.nodes l.nodes;
  changes : KeepsHidden l.initial.table l.table;
  run : WalkRun (variances_in l.declarations) l.target.is_turned l.target.universe l.target.variable l.initial.nodes l.initial.table.entries l.nodes l.table.entries l.fn.variance l.fn.term l.walk.tasks.items l.walk.made.items l.walk.goals.items;
}

abbrev pub decreases-loop-task : goal.decreases-loop-task
decreases-loop-task l = step_weights (content_of l.nodes l.table.entries) (stacked (step_at l.nodes) l.walk.tasks.items)
