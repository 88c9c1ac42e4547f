use Rattle.std.proofs.Common.{sym, ◌∙◌}
use Rattle.nts_program.proofs.Runs.{not_done}
use Rattle.nts_reasons.proofs.Runs.{all_kept}
use Rattle.nts_reasons.proofs.running.run.Goals.{in-Ok, in-Err}
use Rattle.nts_reasons.proofs.running.run.Goals as goal

pub returns-in-Ok-flush-clause-done : goal.returns-in-Ok-flush-clause-done
returns-in-Ok-flush-clause-done g c = elim c.match-run_input.branch [
  | in-Ok w ↦ λ _. all_kept w.in-Ok.ensures.done c.in-Ok-flush.ensures.bytes
  | in-Err w ↦ λ e. absurd (not_done w.in-Err.stop (sym w.status-status.ensures ∙ sym w.status-is ∙ e))
]
