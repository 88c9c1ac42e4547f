-- What a goal that is skipped is answered, and what it is not.
use Rattle.std.proofs.Common.{Ok, Err, Option, Some, None, refl, ap}
use Rattle.std.specs.Prelude.{Result}
use Rattle.nts_certainty.specs.declared.certainty.Certainty.{Certainty}
use Rattle.nts_certainty.specs.declared.certainty.Certainty.TheVariants as certainty
use Rattle.nts_certainty.specs.declared.sources.HasChanged.TheVariants as changes
use Rattle.nts_store.specs.declared.fault.EvalError.{EvalError}
use Rattle.nts_terms.specs.declared.cx.Cx.{Cx}
use Rattle.nts_terms.specs.declared.handles.Goal.{Goal}
use Rattle.nts_table.specs.Tables.{Table}
use Rattle.nts_asking.specs.declared.stalled.GoalStalledOn.{GoalStalledOn}
use Rattle.nts_evaluation.specs.declared.solve.GoalEvaluation.{GoalEvaluation}
use Rattle.nts_evaluation.specs.Skipping.{IsSkipped}

abbrev sure_of : Result GoalEvaluation EvalError → Option Certainty
sure_of (Ok e) = Some e.certainty
sure_of (Err e) = None

abbrev kept_of : Result GoalEvaluation EvalError → Option GoalStalledOn
kept_of (Ok e) = e.stalled_on
kept_of (Err e) = None

-- the doubt that was kept
doubt_again : (a : Cx) (t : Table) (g : Goal) (s : GoalStalledOn) → IsSkipped a a t t g s (Ok (record { goal = g; certainty = certainty.Maybe s.stalled_certainty; has_changed = changes.No; stalled_on = Some s }))
doubt_again a t g s = record { answer = refl; table = refl; store = refl }

-- no error, no yes, and nothing that is forgotten
no_error : (a b : Cx) (t u : Table) (g : Goal) (s : GoalStalledOn) (e : EvalError) → IsSkipped a b t u g s (Err e) → ⊥
no_error a b t u g s e h = (let answer = h.answer in cc answer)

no_yes : (a b : Cx) (t u : Table) (g : Goal) (s : GoalStalledOn) → IsSkipped a b t u g s (Ok (record { goal = g; certainty = certainty.Yes; has_changed = changes.No; stalled_on = Some s })) → ⊥
no_yes a b t u g s h = (let sure = ap sure_of h.answer in cc sure)

nothing_forgotten : (a b : Cx) (t u : Table) (g : Goal) (s : GoalStalledOn) → IsSkipped a b t u g s (Ok (record { goal = g; certainty = certainty.Maybe s.stalled_certainty; has_changed = changes.No; stalled_on = None })) → ⊥
nothing_forgotten a b t u g s h = (let kept = ap kept_of h.answer in cc kept)
