use Rattle.std.proofs.Common.{rules}
use Rattle.nts_trying.proofs.UnsaidEqual.{unequated_no}
use Rattle.nts_trying.proofs.equalities.says_equality.Goals as goal

pub returns-in_default-clause-no : goal.returns-in_default-clause-no
returns-in_default-clause-no c = λ _ env. unequated_no c.args.cx.now.nodes c.args.goal (c.equated_in.ensures.none (search rules)) env
