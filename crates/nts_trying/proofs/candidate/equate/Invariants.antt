use Rattle.std.proofs.Common.{take}
use Rattle.nts_model.specs.Tables.Passing.{BringsOnly}
use Rattle.nts_unify.specs.Reading.{content_of}
use Rattle.nts_meaning.specs.Running.{EquatesEach}
use Rattle.nts_meaning.specs.Evaluation.{Runs, AreValues, asked_terms}
use Rattle.nts_trying.specs.Choices.{EquatesCandidate}
use Rattle.nts_trying.proofs.candidate.equate.Given as goal

abbrev pub invariant-loop-equation : goal.invariant-loop-equation
invariant-loop-equation l = record {
  runs : Runs l.fn.cx l.cx l.fn.table l.table;
  equal : EquatesEach l.fn.cx.nodes l.cx.nodes l.table l.values.items (take l.equation-index l.candidate.equations.items);
  equated : EquatesCandidate l.fn.cx.nodes l.cx.nodes l.fn.table l.table l.candidate.fresh.items l.values.items (take l.equation-index l.candidate.equations.items);
  labels : BringsOnly (asked_terms l.fn.cx.nodes l.fn.goal) (content_of l.fn.cx.nodes l.fn.table.entries) (content_of l.cx.nodes l.table.entries);
  values : AreValues l.cx.nodes l.table l.candidate.fresh.items l.values.items;
}
