use Rattle.nts_terms.specs.Signatures.{variances_in}
use Rattle.nts_variance.proofs.equating.take_equal.Goals as goal

pub returns-in-Open-right-clause-taken : goal.returns-in-Open-right-clause-taken
returns-in-Open-right-clause-taken c = c.join_variables.ensures.taken (variances_in c.args.declarations.now)

pub returns-in-Closed-right-2-clause-taken : goal.returns-in-Closed-right-2-clause-taken
returns-in-Closed-right-2-clause-taken c = c.take_nodes.ensures.taken (variances_in c.args.declarations.now)
