use Rattle.std.proofs.Common.{take}
use Rattle.nts_response.specs.Applied.{StepKeeps}
use Rattle.nts_response.specs.Instantiated.{AddsMissing}
use Rattle.nts_applying.proofs.instantiating.with_missing.Given as goal

abbrev pub invariant-loop-i : goal.invariant-loop-i
invariant-loop-i l = record {
  added : AddsMissing l.fn.cx l.cx l.fn.table l.table l.orig_values (take l.i l.missing) l.originals.items;
  keeps : StepKeeps l.fn.cx l.cx l.fn.table l.table;
}
