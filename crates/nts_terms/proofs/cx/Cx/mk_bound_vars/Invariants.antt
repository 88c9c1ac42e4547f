use Rattle.std.proofs.Common.{take}
use Rattle.nts_terms.specs.Rest.{KeepsRest}
use Rattle.nts_terms.proofs.Standing.{SortsMade}
use Rattle.nts_terms.proofs.cx.Cx.mk_bound_vars.Given as goal

abbrev pub invariant-loop-sort : goal.invariant-loop-sort
invariant-loop-sort l = record {
  made : SortsMade l.initial.self.nodes l.self.nodes l.children.items (take l.sort-index l.sorts);
  rest : KeepsRest l.initial.self l.self;
}
