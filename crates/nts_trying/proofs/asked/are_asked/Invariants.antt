use Rattle.std.proofs.Common.{take}
use Rattle.std.specs.Prelude.{All}
use Rattle.nts_trying.specs.Asking.{IsAskedIn}
use Rattle.nts_trying.proofs.asked.are_asked.Given as goal

abbrev pub invariant-loop-added : goal.invariant-loop-added
invariant-loop-added l = All (IsAskedIn l.cx.nodes) (take l.added-index l.goals)
