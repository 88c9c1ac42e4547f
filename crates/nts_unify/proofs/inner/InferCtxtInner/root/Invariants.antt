use Rattle.std.proofs.Common.{◌<◌, length}
use Rattle.nts_unify.specs.Roots.{Leads}
use Rattle.nts_unify.proofs.inner.InferCtxtInner.root.Given as goal

abbrev pub invariant-loop-next : goal.invariant-loop-next
invariant-loop-next l = record { within : l.root < length l.self.entries.variables; leads : Leads l.self.entries l.fn.n l.root }

abbrev pub decreases-loop-next : goal.decreases-loop-next
decreases-loop-next l = l.root
