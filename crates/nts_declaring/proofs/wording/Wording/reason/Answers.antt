use Rattle.nts_wording.proofs.Growths.{Begins-trans}
use Rattle.nts_declaring.proofs.Holding.{on_ok}
use Rattle.nts_declaring.proofs.Worded.{line_said}
use Rattle.nts_declaring.proofs.wording.Wording.reason.Goals as goal

pub returns-clause-says : goal.returns-clause-says
returns-clause-says g c =
    on_ok c.put_much.result (λ h. line_said c.args.origin c.args.reason c.in_ok-origin.ensures.says c.in_ok-asked.ensures.says (rw c.reason_words.ensures at c.in_ok-write.ensures.says) c.in_ok-write-2.ensures.says h) c.put_much.ensures.says

pub returns-clause-begins : goal.returns-clause-begins
returns-clause-begins g c = Begins-trans c.in_ok-asked.ensures.begins c.put_much.ensures.begins
