use Rattle.std.proofs.Common.{◌≡◌, map, take}
use Rattle.nts_model.specs.Canonical.Inputs.{sub_root_of}
use Rattle.nts_canonical.specs.SubRoots.{sub_root_in}
use Rattle.nts_canonical.proofs.var_kinds.sub_roots.Given as goal

abbrev pub invariant-loop-i : goal.invariant-loop-i
invariant-loop-i l = l.roots.items ≡ map (sub_root_of (sub_root_in l.table.entries)) (take l.i l.leaves)
