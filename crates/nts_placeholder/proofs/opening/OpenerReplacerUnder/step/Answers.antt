use Rattle.std.proofs.Common.{sym}
use Rattle.nts_store.specs.Growth.{tree_at}
use Rattle.nts_placeholder.proofs.OpeningLemmas.{opened_closed}
use Rattle.nts_placeholder.proofs.opening.OpenerReplacerUnder.step.Goals as goal

pub returns-in_default-clause-step : goal.returns-in_default-clause-step
returns-in_default-clause-step c =
    (c.requires.within, sym (opened_closed c.args.self.now.universes.now c.args.place.depth (tree_at c.args.nodes.now c.args.place.node) (c.is_closed_under.ensures.0 c.if-is_closed_under.true)))
