use Rattle.std.proofs.Common.{sym, ap, ◌∙◌}
use Rattle.nts_store.specs.Growth.{tree_at}
use Rattle.nts_placeholder.specs.Closing.{mapped}
use Rattle.nts_placeholder.proofs.ClosingLemmas.{closed_none}
use Rattle.nts_placeholder.proofs.closing.CloserReplacerUnder.step.Goals as goal

pub returns-then-not-flags-clause-step : goal.returns-then-not-flags-clause-step
returns-then-not-flags-clause-step c =
    (c.requires.within, sym (closed_none (mapped c.args.self.now.maps.now) c.args.self.now.universes.now c.args.place.depth (tree_at c.args.nodes.now c.args.place.node) (ap (λ f. f.has_placeholder) (sym c.flags.ensures) ∙ c.if-not-flags.true)))
