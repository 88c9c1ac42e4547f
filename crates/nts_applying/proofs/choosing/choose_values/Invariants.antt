use Rattle.std.proofs.Common.{take}
use Rattle.nts_canonical.specs.Forms.{trees_of}
use Rattle.nts_applying.proofs.MadeValues.{ChosenSoFar}
use Rattle.nts_applying.proofs.choosing.choose_values.Given as goal

abbrev pub invariant-loop-i : goal.invariant-loop-i
invariant-loop-i l = ChosenSoFar l.fn.cx l.cx l.fn.table l.table l.universe (trees_of l.fn.cx.nodes l.values) (trees_of l.fn.cx.nodes l.originals) (take l.i l.kinds) l.chosen.items
