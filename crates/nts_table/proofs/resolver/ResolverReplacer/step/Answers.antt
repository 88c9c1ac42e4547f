use Rattle.std.proofs.Common.{refl}
use Rattle.nts_store.specs.Growth.{tree_at}
use Rattle.nts_table.specs.Resolution.{resolution}
use Rattle.nts_table.proofs.Walking.{resolution-left, node_goes_down}
use Rattle.nts_table.proofs.resolver.ResolverReplacer.step.Goals as goal

pub returns-then-leaves-clause-step : goal.returns-then-leaves-clause-step
returns-then-leaves-clause-step c =
    let self = c.args.self.now in
    (c.requires.within, resolution-left (resolution c.args.nodes.now self.table.now self.regions) (tree_at c.args.nodes.now c.args.t) (c.if-leaves.ensures refl))

pub returns-in-None-clause-step : goal.returns-in-None-clause-step
returns-in-None-clause-step c =
    let self = c.args.self.now in
    (c.requires.within, node_goes_down (resolution c.args.nodes.now self.table.now self.regions) (tree_at c.args.nodes.now c.args.t) c.label.result c.label.ensures.is c.in-None.ensures c.requires.covers)
