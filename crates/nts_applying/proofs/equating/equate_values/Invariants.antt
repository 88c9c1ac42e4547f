use Rattle.std.proofs.Common.{◌++◌, take, map}
use Rattle.nts_model.specs.Answers.Applying.{MakesEqual}
use Rattle.nts_model.specs.Terms.Substitutions.{filled}
use Rattle.nts_model.specs.Tables.Passing.{BringsOnly}
use Rattle.nts_unify.specs.Changing.{IsLater}
use Rattle.nts_store.specs.Growth.{tree_at}
use Rattle.nts_unify.specs.Reading.{content_of}
use Rattle.nts_canonical.specs.Forms.{trees_of}
use Rattle.nts_response.specs.Applied.{StepKeeps}
use Rattle.nts_applying.proofs.equating.equate_values.Given as goal

abbrev pub invariant-loop-i : goal.invariant-loop-i
invariant-loop-i l = record {
  equal : MakesEqual (map (tree_at l.fn.cx.nodes) l.chosen) (take l.i (trees_of l.fn.cx.nodes l.values)) (take l.i (trees_of l.fn.cx.nodes l.originals)) (content_of l.fn.cx.nodes l.fn.table.entries) (content_of l.cx.nodes l.table.entries);
  labels : BringsOnly (map (filled (map (tree_at l.fn.cx.nodes) l.chosen)) (trees_of l.fn.cx.nodes l.values) ++ trees_of l.fn.cx.nodes l.originals) (content_of l.fn.cx.nodes l.fn.table.entries) (content_of l.cx.nodes l.table.entries);
  later : IsLater (content_of l.fn.cx.nodes l.fn.table.entries) (content_of l.cx.nodes l.table.entries);
  keeps : StepKeeps l.fn.cx l.cx l.fn.table l.table;
}
