use Rattle.nts_trying.proofs.AskedData.{all_are_asked, not_all_asked}
use Rattle.nts_trying.proofs.asked.asks_all.Goals as goal

pub returns-in-Coherence-clause-yes : goal.returns-in-Coherence-clause-yes
returns-in-Coherence-clause-yes c = λ yes. rw c.in-Coherence.is (all_are_asked c.args.cx.now.nodes c.args.goals.now (c.are_asked.ensures.yes yes))

pub returns-in-Coherence-clause-no : goal.returns-in-Coherence-clause-no
returns-in-Coherence-clause-no c = λ no. not_all_asked c.args.cx.now.nodes c.args.goals.now (c.are_asked.ensures.no no)
