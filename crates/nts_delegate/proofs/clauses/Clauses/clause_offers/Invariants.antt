use Rattle.std.proofs.Common.{take}
use Rattle.nts_delegate.specs.ClauseHandlers.{alias_asked}
use Rattle.nts_delegate.proofs.AliasFound.{AreNormalFound}
use Rattle.nts_delegate.proofs.clauses.Clauses.clause_offers.Given as goal

abbrev pub invariant-loop-clause : goal.invariant-loop-clause
invariant-loop-clause l =
    AreNormalFound l.cx.nodes l.goal (alias_asked l.cx.nodes l.alias l.term) (take l.clause-index l.clause-items) l.found.items
