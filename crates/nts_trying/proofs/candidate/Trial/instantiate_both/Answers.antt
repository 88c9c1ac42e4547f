use Rattle.nts_trying.proofs.Instances.{HoldsValues-extended, IsInstance-earlier, IsInstance-later}
use Rattle.nts_meaning.proofs.Evaluating.{IsOverIn-extended}
use Rattle.nts_trying.proofs.candidate.Trial.instantiate_both.Goals as goal

pub instantiate-requires-2-clause-over : goal.instantiate-requires-2-clause-over
instantiate-requires-2-clause-over c = IsOverIn-extended c.in_ok-left.ensures.grows.extends c.requires.holds c.requires.right

pub instantiate-requires-2-clause-values : goal.instantiate-requires-2-clause-values
instantiate-requires-2-clause-values c = HoldsValues-extended c.in_ok-left.ensures.grows.extends c.requires.values

pub returns-clause-left : goal.returns-clause-left
returns-clause-left c = IsInstance-later c.in_ok-right.ensures.grows.extends c.in_ok-right.ensures.instance.formed c.in_ok-left.ensures.instance

pub returns-clause-right : goal.returns-clause-right
returns-clause-right c =
    IsInstance-earlier c.requires.values.within c.requires.right.within c.in_ok-left.ensures.grows.extends c.in_ok-right.ensures.instance
