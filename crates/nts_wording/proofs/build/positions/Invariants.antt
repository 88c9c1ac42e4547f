use Rattle.std.proofs.Common.{List, take}
use Rattle.nts_model.specs.Terms.Trees.{Tree}
use Rattle.nts_wording.specs.Meaning.{AreClausePositions}
use Rattle.nts_store.specs.Growth.{Extends}
use Rattle.nts_terms.specs.Rest.{KeepsRest}
use Rattle.nts_wording.proofs.build.positions.Given as goal

abbrev pub invariant-loop-var : goal.invariant-loop-var
invariant-loop-var l = record {
  trees : (us : List Tree) → Extends l.cx.nodes us → AreClausePositions us (take l.var l.sorts) l.values.items;
  extends : Extends l.fn.cx.nodes l.cx.nodes;
  rest : KeepsRest l.fn.cx l.cx;
}
