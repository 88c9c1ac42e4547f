-- What a goal at the root is answered where it is skipped.
use Rattle.std.specs.Prelude.{◌≡◌, Result, Ok, Some}
use Rattle.nts_certainty.specs.declared.certainty.Certainty.TheVariants as certainty
use Rattle.nts_certainty.specs.declared.sources.HasChanged.TheVariants as changes
use Rattle.nts_store.specs.declared.fault.EvalError.{EvalError}
use Rattle.nts_terms.specs.declared.cx.Cx.{Cx}
use Rattle.nts_terms.specs.declared.handles.Goal.{Goal}
use Rattle.nts_table.specs.Tables.{Table}
use Rattle.nts_asking.specs.declared.stalled.GoalStalledOn.{GoalStalledOn}
use Rattle.nts_evaluation.specs.declared.solve.GoalEvaluation.{GoalEvaluation}

-- the goal is answered with the doubt that was kept of it, whatever memory there is; store and table are not touched
pub record IsSkipped (a b : Cx) (t u : Table) (g : Goal) (s : GoalStalledOn) (r : Result GoalEvaluation EvalError) : Type 0 where
  pub answer : r ≡ Ok (record { goal = g; certainty = certainty.Maybe s.stalled_certainty; has_changed = changes.No; stalled_on = Some s })
  pub table : u ≡ t
  pub store : b ≡ a
