use Rattle.std.proofs.Common.{◌≡◌}
use Rattle.nts_model.specs.Canonical.Numbered.{seen}
use Rattle.nts_store.specs.Growth.{tree_at}
use Rattle.nts_canonicalizer.specs.Collecting.{stays_where, jobs, seen_after, job_weights, IsReading}
use Rattle.nts_canonicalizer.proofs.collecting.walk.Given as goal

abbrev pub invariant-loop-task : goal.invariant-loop-task
invariant-loop-task l = record {
  reading : IsReading (stays_where l.staying) l.nodes l.tasks.items l.leaves l.finished.keys;
  same : seen_after (stays_where l.staying) (jobs l.nodes l.tasks.items) l.leaves ≡ seen (stays_where l.staying) l.fn.leaves (tree_at l.nodes l.fn.t);
}

abbrev pub decreases-loop-task : goal.decreases-loop-task
decreases-loop-task l = job_weights (jobs l.nodes l.tasks.items)
