use Rattle.nts_context_uses.proofs.Asked.{plain_now}
use Rattle.nts_context_uses.proofs.rule.is_plain.Goals as goal

pub returns-clause-plain : goal.returns-clause-plain
returns-clause-plain c = λ n.
    let e = c.in_ok-has_alias.ensures in
    plain_now c.in_ok-has_alias.has_alias e.grows.extends c.requires.table (c.holds.ensures.0 c.if-not-holds.false) (c.in_ok-knows.ensures.answer.0 c.if-not-branch.false) e.answer n
