use Rattle.std.proofs.Common.{◌≡◌, ℕ, ◌-◌, ◌+◌, length}
use Rattle.std.specs.Prelude.{slice_get}
use Rattle.nts_delegate.specs.Clauses.{said_in}
use Rattle.nts_delegate.proofs.alias_table.reach.Given as goal

abbrev pub invariant-loop-alloc : goal.invariant-loop-alloc
invariant-loop-alloc l = (i : ℕ) → said_in (slice_get l.rules.items i) ≡ said_in (slice_get l.initial.rules.items i)

abbrev pub decreases-loop-alloc : goal.decreases-loop-alloc
decreases-loop-alloc l = l.number + 1 - length l.rules.items
