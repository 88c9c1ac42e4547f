use Rattle.std.proofs.Common.{take}
use Rattle.nts_terms.specs.Rest.{Grows}
use Rattle.nts_trying.specs.Adding.{AreAdded}
use Rattle.nts_trying.proofs.candidate.Trial.added_goals.Given as goal

abbrev pub invariant-loop-asked : goal.invariant-loop-asked
invariant-loop-asked l = record {
  grows : Grows l.fn.cx l.cx;
  added : AreAdded l.fn.cx.nodes l.cx.nodes l.fn.table l.fn.self.goal l.fn.self.values.now (take l.asked-index l.nested) l.added.items;
}
