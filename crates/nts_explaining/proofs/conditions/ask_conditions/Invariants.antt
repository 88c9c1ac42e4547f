use Rattle.std.proofs.Common.{length}
use Rattle.nts_evaluation.specs.nts_meaning.specs.Evaluation.{Runs}
use Rattle.nts_explaining.specs.Asking.{IsWithin}
use Rattle.nts_explaining.proofs.conditions.ask_conditions.Given as goal

-- the conditions were asked in some passes
abbrev pub invariant-loop : goal.invariant-loop
invariant-loop g l = record {
  runs : Runs l.fn.cx l.cx l.fn.table l.table;
  within : IsWithin (length l.goals) l.pass.outcome;
}
