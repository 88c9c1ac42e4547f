use Rattle.std.proofs.Common.{◌≡◌, ◌++◌, map, take, drop}
use Rattle.nts_canonical.specs.SubRoots.{sub_root_in}
use Rattle.nts_asking.proofs.stalling.put_sub_roots.Given as goal

abbrev pub invariant-loop-i : goal.invariant-loop-i
invariant-loop-i l = l.types ≡ map (sub_root_in l.table.entries) (take l.i l.initial.types) ++ drop l.i l.initial.types
