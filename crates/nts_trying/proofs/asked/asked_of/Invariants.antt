use Rattle.std.proofs.Common.{◌≡◌, take}
use Rattle.nts_trying.specs.Asking.{asked_data}
use Rattle.nts_trying.proofs.asked.asked_of.Given as goal

abbrev pub invariant-loop-added : goal.invariant-loop-added
invariant-loop-added l = l.asked.items ≡ asked_data l.cx.nodes (take l.added-index l.goals)
