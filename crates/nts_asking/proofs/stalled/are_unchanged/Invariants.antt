use Rattle.std.proofs.Common.{ℕ, ◌<◌, get_or}
use Rattle.nts_store.specs.Growth.{tree_at}
use Rattle.nts_terms.specs.declared.handles.GenericArg.{GenericArg}
use Rattle.nts_unify.specs.Unchanged.{IsUnchanged}
use Rattle.nts_asking.proofs.stalled.are_unchanged.Given as goal

abbrev pub invariant-loop-i : goal.invariant-loop-i
invariant-loop-i l = (k : ℕ) (d : GenericArg) → k < l.i → (let a = get_or l.vars k d in IsUnchanged l.table.entries (tree_at l.cx.nodes a.node))
