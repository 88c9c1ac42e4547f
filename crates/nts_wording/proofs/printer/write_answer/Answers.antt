use Rattle.nts_wording.proofs.printer.write_answer.Goals as goal

pub returns-in-Yes-clause-told : goal.returns-in-Yes-clause-told
returns-in-Yes-clause-told g c = rw c.in-Yes.is c.write_found.ensures.told
