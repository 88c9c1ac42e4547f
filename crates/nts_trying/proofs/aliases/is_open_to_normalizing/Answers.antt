use Rattle.std.proofs.Common.{inl, inr, rules}
use Rattle.nts_trying.proofs.aliases.is_open_to_normalizing.Goals as goal

pub returns-then-is_outside-clause-open : goal.returns-then-is_outside-clause-open
returns-then-is_outside-clause-open c = λ z. inl (c.is_outside.ensures.0 c.if-is_outside.true)

pub returns-clause-open : goal.returns-clause-open
returns-clause-open c = λ yes. inr (search rules, c.is_equality.ensures.yes yes)
