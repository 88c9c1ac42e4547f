use Rattle.nts_table.specs.Tables.{IsTable}
use Rattle.nts_evaluation_vectors.proofs.asking.ask_all.Given as goal

abbrev pub invariant-loop-n : goal.invariant-loop-n
invariant-loop-n g l = record {
  table : IsTable l.cx.nodes l.table;
  ready : g.H.GoalHandler.ready l.cx.nodes l.handler;
}
