use Rattle.std.proofs.Common.{◌≡◌, drop}
use Rattle.nts_reasons.specs.Obeying.{trait_of}
use Rattle.nts_reasons.proofs.explainer.trait_of.Given as goal

-- the nodes so far name no trait
abbrev pub invariant-loop-node : goal.invariant-loop-node
invariant-loop-node l = trait_of l.nodes ≡ trait_of (drop l.node-index l.nodes)
