use Rattle.std.proofs.Common.{take}
use Rattle.nts_meaning.specs.Evaluation.{Runs}
use Rattle.nts_adding.specs.Adding.{AddsEach, ArePosedIn}
use Rattle.nts_adding.proofs.goals.goals_to_add.Given as goal

abbrev pub invariant-loop-goal : goal.invariant-loop-goal
invariant-loop-goal l = record {
  runs : Runs l.fn.cx l.cx l.fn.table l.table;
  adds : AddsEach l.fn.cx.nodes l.cx.nodes l.fn.table.entries l.table.entries l.kind l.source (take l.goal-index l.goals) l.added.items;
  posed : ArePosedIn l.cx.nodes l.table l.added.items;
}
