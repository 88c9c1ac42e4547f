use Rattle.std.proofs.Common.{◌≤◌, length, drop}
use Rattle.nts_store.specs.Growth.{Extends}
use Rattle.nts_terms.specs.Rest.{KeepsRest}
use Rattle.nts_wording.proofs.Meant.{IsMade}
use Rattle.nts_wording.proofs.build.bound_clauses.Given as goal

abbrev pub invariant-loop-at : goal.invariant-loop-at
invariant-loop-at l = record {
  extends : Extends l.fn.cx.nodes l.cx.nodes;
  rest : KeepsRest l.fn.cx l.cx;
  placed : l.at ≤ length l.nodes;
  made : IsMade l.cx.nodes l.terms.variables.now l.terms.values.now (drop l.at l.nodes) l.made l.found.items;
}

abbrev pub decreases-loop-at : goal.decreases-loop-at
decreases-loop-at l = l.at
