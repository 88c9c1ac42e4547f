use Rattle.std.proofs.Common.{take}
use Rattle.nts_store.specs.Growth.{Extends}
use Rattle.nts_solver_relating.specs.Sides.{AreMadeFor}
use Rattle.nts_solver_relating.proofs.nodes.goals_of.Given as goal

abbrev pub invariant-loop-pair : goal.invariant-loop-pair
invariant-loop-pair l = record {
  extends : Extends l.initial.nodes l.nodes;
  made : AreMadeFor l.initial.nodes l.nodes l.env (take l.pair-index l.pairs) l.made.items;
}
