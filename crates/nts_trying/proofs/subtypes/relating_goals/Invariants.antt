use Rattle.std.proofs.Common.{◌≡◌, take}
use Rattle.nts_trying.specs.Subtyping.{with_source}
use Rattle.nts_trying.proofs.subtypes.relating_goals.Given as goal

abbrev pub invariant-loop-goal : goal.invariant-loop-goal
invariant-loop-goal l = l.left.items ≡ with_source (take l.goal-index l.goals)
