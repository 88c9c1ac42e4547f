use Rattle.std.proofs.Common.{drop}
use Rattle.nts_store.specs.Growth.{tree_at}
use Rattle.nts_delegate.proofs.Found.{IsAt}
use Rattle.nts_delegate.proofs.clauses.offers_from.Given as goal

abbrev pub invariant-loop-place : goal.invariant-loop-place
invariant-loop-place l =
    IsAt l.cx.nodes l.goal (tree_at l.cx.nodes l.trait_ref.args.node) l.fn.head l.of_trait.clauses.items l.found.items (drop l.place-index l.places)
