use Rattle.nts_delegate.specs.Clauses.{AreClausesReady}
use Rattle.nts.proofs.limit_tests.play_all.Given as goal

abbrev pub invariant-loop-n : goal.invariant-loop-n
invariant-loop-n g l = AreClausesReady l.program.cx.nodes l.program.clauses
