use Rattle.std.proofs.Common.{◌-◌, ◌+◌, length}
use Rattle.nts_declaring.specs.ImplLines.{KeepsLines}
use Rattle.nts_declaring.proofs.impl_lines.ImplLines.entry.Given as goal

abbrev pub invariant-loop-self : goal.invariant-loop-self
invariant-loop-self l = KeepsLines l.initial.self l.self

abbrev pub decreases-loop-self : goal.decreases-loop-self
decreases-loop-self l = l.trait_number + 1 - length l.self.traits.items
