use Rattle.std.proofs.Common.{refl}
use Rattle.nts_store.proofs.Growing.{Extends-refl}
use Rattle.nts_declaring.proofs.program.Program.add_norm.Goals as goal

-- the clause that the line says is the one that is added
pub returns-clause-added : goal.returns-clause-added
returns-clause-added c = (c.in_ok-clause.clause, c.in_ok-is_added.ensures.added (rw c.if-not-is_added.false refl), c.in_ok-clause.ensures.rule _ (Extends-refl _))
