use Rattle.std.proofs.Common.{◌≡◌, take}
use Rattle.nts_trying.specs.Relating.{plain_data}
use Rattle.nts_trying.proofs.relating.plain_of.Given as goal

abbrev pub invariant-loop-equation : goal.invariant-loop-equation
invariant-loop-equation l = l.chosen.items ≡ plain_data l.cx.nodes (take l.equation-index l.candidate.equations.items)
