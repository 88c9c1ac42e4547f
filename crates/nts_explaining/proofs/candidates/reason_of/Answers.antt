use Rattle.std.proofs.Common.{inl, inr}
use Rattle.nts_candidates.proofs.Results.{IfOk-map}
use Rattle.nts_explaining.proofs.candidates.reason_of.Goals as goal

pub returns-then-needs_relating-clause-explains : goal.returns-then-needs_relating-clause-explains
returns-then-needs_relating-clause-explains g c = IfOk-map c.related_reason.result (λ r h. inr (c.needs_relating.ensures.yes c.if-needs_relating.true, h)) c.related_reason.ensures.explains

pub returns-clause-explains : goal.returns-clause-explains
returns-clause-explains g c = IfOk-map c.plain_reason.result (λ r h. inl (c.needs_relating.ensures.no c.if-needs_relating.false, h)) c.plain_reason.ensures.explains
