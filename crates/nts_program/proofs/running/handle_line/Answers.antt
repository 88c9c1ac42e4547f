use Rattle.nts_program.proofs.Obeyed.{never}
use Rattle.nts_program.proofs.Runs.{answered_where}
use Rattle.nts_program.proofs.running.handle_line.Goals as goal

pub returns-in-Ok-Some-clause-passed : goal.returns-in-Ok-Some-clause-passed
returns-in-Ok-Some-clause-passed g c = never _ c.write_answer.result (rw c.in-Ok-Some.field-0-is at c.in-Ok-Some.ensures.passed)

pub returns-in-Ok-Some-clause-answered : goal.returns-in-Ok-Some-clause-answered
returns-in-Ok-Some-clause-answered g c =
    answered_where c.write_answer.result _ _ _ _ _ c.in-Ok-Some.answer (rw c.in-Ok-Some.field-0-is at c.in-Ok-Some.ensures.obeyed) c.write_answer.ensures.told
