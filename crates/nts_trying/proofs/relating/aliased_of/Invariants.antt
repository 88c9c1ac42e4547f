use Rattle.std.proofs.Common.{◌≡◌, take}
use Rattle.nts_trying.specs.Relating.{aliased_data}
use Rattle.nts_trying.proofs.relating.aliased_of.Given as goal

abbrev pub invariant-loop-equation : goal.invariant-loop-equation
invariant-loop-equation l = l.chosen.items ≡ aliased_data l.cx.nodes (take l.equation-index l.candidate.equations.items)
