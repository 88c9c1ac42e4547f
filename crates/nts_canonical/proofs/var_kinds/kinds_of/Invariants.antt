use Rattle.std.proofs.Common.{◌≡◌, map, take}
use Rattle.nts_model.specs.Canonical.Inputs.{position_kind}
use Rattle.nts_canonical.specs.SubRoots.{sub_root_in}
use Rattle.nts_canonical.specs.Forms.{kind_of_var}
use Rattle.nts_canonical.proofs.var_kinds.kinds_of.Given as goal

abbrev pub invariant-loop-i : goal.invariant-loop-i
invariant-loop-i l = map kind_of_var l.kinds.items ≡ map (position_kind (sub_root_in l.table.entries) l.leaves) (take l.i l.leaves)
