use Rattle.std.proofs.Common.{take, map}
use Rattle.nts_model.specs.Answers.Applying.{Records}
use Rattle.nts_model.specs.Terms.Substitutions.{filled}
use Rattle.nts_model.specs.Tables.Passing.{BringsOnly}
use Rattle.nts_model.specs.Tables.SubUnifying.{JoinsSubRoots}
use Rattle.nts_store.specs.Growth.{tree_at}
use Rattle.nts_unify.specs.Reading.{content_of}
use Rattle.nts_unify.specs.Recording.{is_visible}
use Rattle.nts_response.specs.Forms.{recorded_at}
use Rattle.nts_response.specs.Applied.{StepKeeps}
use Rattle.nts_response.specs.Recorded.{sides_of, AddsAllSeen}
use Rattle.nts_applying.proofs.recording.record_constraints.Given as goal

abbrev pub invariant-loop-i : goal.invariant-loop-i
invariant-loop-i l = record {
  recorded : Records (map (tree_at l.fn.cx.nodes) l.chosen) (take l.i (map (recorded_at l.fn.cx.nodes) l.constraints)) (content_of l.fn.cx.nodes l.fn.table.entries) (content_of l.cx.nodes l.table.entries);
  seen : AddsAllSeen (is_visible l.visible) (take l.i (map (recorded_at l.fn.cx.nodes) l.constraints)) (content_of l.fn.cx.nodes l.fn.table.entries).constraints (content_of l.cx.nodes l.table.entries).constraints;
  labels : BringsOnly (map (filled (map (tree_at l.fn.cx.nodes) l.chosen)) (sides_of (map (recorded_at l.fn.cx.nodes) l.constraints))) (content_of l.fn.cx.nodes l.fn.table.entries) (content_of l.cx.nodes l.table.entries);
  joins : JoinsSubRoots (content_of l.fn.cx.nodes l.fn.table.entries) (content_of l.cx.nodes l.table.entries);
  keeps : StepKeeps l.fn.cx l.cx l.fn.table l.table;
}
