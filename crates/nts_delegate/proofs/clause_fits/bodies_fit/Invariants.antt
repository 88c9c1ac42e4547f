use Rattle.std.proofs.Common.{take}
use Rattle.nts_delegate.specs.Clauses.{AreBodies}
use Rattle.nts_delegate.proofs.clause_fits.bodies_fit.Given as goal

abbrev pub invariant-loop-predicate : goal.invariant-loop-predicate
invariant-loop-predicate l =
    AreBodies l.cx.nodes l.fresh (take l.predicate-index l.body)
