use Rattle.std.proofs.Common.{◌≤◌, length}
use Rattle.nts_evaluation.specs.nts_meaning.specs.Evaluation.{Runs}
use Rattle.nts_explaining.specs.Asking.{IsWithin}
use Rattle.nts_explaining.proofs.conditions.ask_each.Given as goal

-- the first conditions were asked
abbrev pub invariant-loop-number : goal.invariant-loop-number
invariant-loop-number g l = record {
  runs : Runs l.fn.cx l.cx l.fn.table l.table;
  bound : l.number ≤ length l.goals;
  within : IsWithin l.number l.pass.outcome;
}
