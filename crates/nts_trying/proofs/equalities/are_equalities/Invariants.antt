use Rattle.std.proofs.Common.{take}
use Rattle.std.specs.Prelude.{All}
use Rattle.nts_certainty.specs.declared.sources.GoalSource.{GoalSource}
use Rattle.nts_terms.specs.declared.handles.Goal.{Goal}
use Rattle.nts_store.specs.Growth.{tree_at}
use Rattle.nts_theory.specs.Aliasing.{SaysEqual}
use Rattle.nts_trying.proofs.equalities.are_equalities.Given as goal

abbrev pub invariant-loop-added : goal.invariant-loop-added
invariant-loop-added l = All (λ (z : GoalSource × Goal). SaysEqual (tree_at l.cx.nodes z.1.predicate.node)) (take l.added-index l.goals)
