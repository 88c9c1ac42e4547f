use Rattle.nts_text.proofs.ReadingLemmas.{unknown_name, wrong_name}
use Rattle.nts_text.proofs.known.predicate.Goals as goal

-- a name that stands for nothing of the kind
pub returns-in_err-number : goal.returns-in_err-number
returns-in_err-number c = unknown_name _ _ _ _ _ _ c.from_residual.result _ c.from_residual.ensures.1 c.in_err-number.ensures.unknown

pub returns-in_default : goal.returns-in_default
returns-in_default c = wrong_name _ _ _ _ _ _ c.refused.result c.refused.ensures

pub returns-then-len-node : goal.returns-then-len-node
returns-then-len-node c = wrong_name _ _ _ _ _ _ c.refused-then-len-node.result c.refused-then-len-node.ensures
