use Rattle.nts_delegate.proofs.clauses.trait_of_statement.Goals as goal

pub returns-in-Clause-clause-holds : goal.returns-in-Clause-clause-holds
returns-in-Clause-clause-holds c = λ ts h. c.trait_of_clause.ensures.holds ts (rw c.in-Clause.is at h)
