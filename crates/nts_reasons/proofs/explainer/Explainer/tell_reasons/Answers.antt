use Rattle.nts_candidates.proofs.Results.{OnOk-map}
use Rattle.nts_reasons.proofs.Lining.{line_reasons}
use Rattle.nts_reasons.proofs.explainer.Explainer.tell_reasons.Goals as goal

pub returns-clause-reasoned : goal.returns-clause-reasoned
returns-clause-reasoned g c =
    let are = c.in-Ok.ensures.reasons in
    let reasons = c.in-Ok.explained.reasons.items in
    let told = rw (c.lines_for-lines.ensures, c.deref.ensures.value) at c.write_reasons.ensures.told in
    OnOk-map c.write_reasons.result
    (λ t. (t.0, record { reasons = reasons; are = are; all = line_reasons c.args.self.now c.args.nodes.now reasons c.requires.lines are; worded = t.1 }, t.2)) told
