use Rattle.nts_wording.proofs.Growths.{Begins-trans}
use Rattle.nts_reasons.proofs.Telling.{told, told_yes}
use Rattle.nts_reasons.proofs.explainer.Explainer.tell.Goals as goal

pub returns-then-is_yes-clause-told : goal.returns-then-is_yes-clause-told
returns-then-is_yes-clause-told g c = told_yes c.args.self.now c.args.asked.now _ _ _ c.is_yes.ensures c.if-is_yes.true c.in_ok-write_answer.ensures.told

pub returns-clause-told : goal.returns-clause-told
returns-clause-told g c =
    told c.args.self.now c.args.asked.now _ _ _ _ c.tell_reasons.result c.is_yes.ensures c.if-is_yes.false c.in_ok-write_answer.ensures.told (rw c.deref.ensures.value at c.tell_reasons.ensures.reasoned)

pub returns-clause-begins : goal.returns-clause-begins
returns-clause-begins g c = Begins-trans c.in_ok-write_answer.ensures.begins c.tell_reasons.ensures.begins
