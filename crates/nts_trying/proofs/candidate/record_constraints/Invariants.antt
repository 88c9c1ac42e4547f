use Rattle.std.proofs.Common.{take, map}
use Rattle.nts_model.specs.Tables.Passing.{BringsOnly}
use Rattle.nts_model.specs.Refutation.Forcing.{AddsAll}
use Rattle.nts_store.specs.Growth.{tree_at}
use Rattle.nts_unify.specs.Reading.{content_of}
use Rattle.nts_candidates.specs.Offered.{constraint_of}
use Rattle.nts_meaning.specs.Running.{Constrains}
use Rattle.nts_meaning.specs.Evaluation.{Runs, asked_terms}
use Rattle.nts_trying.proofs.candidate.record_constraints.Given as goal

abbrev pub invariant-loop-constraint : goal.invariant-loop-constraint
invariant-loop-constraint l = record {
  runs : Runs l.fn.cx l.cx l.fn.table l.table;
  labels : BringsOnly (asked_terms l.fn.cx.nodes l.fn.trial.goal) (content_of l.fn.cx.nodes l.fn.table.entries) (content_of l.cx.nodes l.table.entries);
  held : Constrains l.fn.cx.nodes l.cx.nodes l.table l.fn.trial.values.now (take l.constraint-index l.constraints);
  added : AddsAll (map (tree_at l.fn.cx.nodes) l.fn.trial.values.now) (map (constraint_of l.fn.cx.nodes) (take l.constraint-index l.constraints)) (content_of l.fn.cx.nodes l.fn.table.entries) (content_of l.cx.nodes l.table.entries);
}
