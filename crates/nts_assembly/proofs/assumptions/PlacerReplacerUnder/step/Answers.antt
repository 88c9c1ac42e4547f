use Rattle.std.proofs.Common.{sym}
use Rattle.nts_store.specs.Growth.{tree_at}
use Rattle.nts_assembly.specs.Positioned.{stays_positioned}
use Rattle.nts_assembly.proofs.assumptions.PlacerReplacerUnder.step.Goals as goal

pub returns-in_default-clause-step : goal.returns-in_default-clause-step
returns-in_default-clause-step c =
    (c.requires.within, sym (stays_positioned c.args.place.depth (tree_at c.args.nodes.now c.args.place.node) (c.is_closed_under.ensures c.if-is_closed_under.true)))
