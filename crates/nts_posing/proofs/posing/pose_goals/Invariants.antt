use Rattle.std.proofs.Common.{take}
use Rattle.nts_meaning.specs.Evaluation.{Runs}
use Rattle.nts_posing.specs.Posed.{PosesGoals}
use Rattle.nts_posing.proofs.posing.pose_goals.Given as goal

abbrev pub invariant-loop-given : goal.invariant-loop-given
invariant-loop-given l = record {
  runs : Runs l.fn.cx l.cx l.fn.table l.table;
  poses : PosesGoals l.kind l.fn.cx.nodes l.cx.nodes l.fn.table l.table (take l.given-index l.goals) l.posed.items;
}
