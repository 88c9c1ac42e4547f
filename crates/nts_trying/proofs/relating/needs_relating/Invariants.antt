use Rattle.std.proofs.Common.{◌≡◌, [], take}
use Rattle.nts_trying.specs.Relating.{aliased_data}
use Rattle.nts_trying.proofs.relating.needs_relating.Given as goal

abbrev pub invariant-loop-equation : goal.invariant-loop-equation
invariant-loop-equation l = aliased_data l.cx.nodes (take l.equation-index l.candidate.equations.items) ≡ []
