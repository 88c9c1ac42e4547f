use Rattle.std.proofs.Common.{◌<◌, length}
use Rattle.nts_unify.specs.Roots.{SubLeads}
use Rattle.nts_unify.proofs.inner.InferCtxtInner.sub_root.Given as goal

abbrev pub invariant-loop-next : goal.invariant-loop-next
invariant-loop-next l = record { within : l.root < length l.self.entries.variables; leads : SubLeads l.self.entries l.fn.n l.root }

abbrev pub decreases-loop-next : goal.decreases-loop-next
decreases-loop-next l = l.root
