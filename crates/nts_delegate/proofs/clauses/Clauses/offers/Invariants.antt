use Rattle.std.proofs.Common.{take}
use Rattle.nts_store.specs.Growth.{tree_at}
use Rattle.nts_delegate.proofs.Offering.{AreFound}
use Rattle.nts_delegate.proofs.clauses.Clauses.offers.Given as goal

abbrev pub invariant-loop-clause : goal.invariant-loop-clause
invariant-loop-clause l =
    AreFound l.cx.nodes l.goal (tree_at l.cx.nodes l.trait_ref.args.node) (take l.clause-index l.clause-items) l.found.items
