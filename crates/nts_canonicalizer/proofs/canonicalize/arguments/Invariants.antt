use Rattle.std.proofs.Common.{take}
use Rattle.nts_store.specs.Growth.{Extends}
use Rattle.nts_canonical.specs.Replaced.{AreLeafArgs}
use Rattle.nts_canonicalizer.proofs.canonicalize.arguments.Given as goal

abbrev pub invariant-loop-i : goal.invariant-loop-i
invariant-loop-i l = record {
  are : AreLeafArgs l.nodes l.arguments.items (take l.i l.leaves);
  extends : Extends l.fn.nodes l.nodes;
}
