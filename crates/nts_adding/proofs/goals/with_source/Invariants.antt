use Rattle.std.proofs.Common.{◌≡◌, map, take}
use Rattle.nts_adding.proofs.goals.with_source.Given as goal

abbrev pub invariant-loop-goal : goal.invariant-loop-goal
invariant-loop-goal l = l.added.items ≡ map (λ g. (l.source, g)) (take l.goal-index l.goals)
