use Rattle.std.proofs.Common.{◌≡◌}
use Rattle.nts_model.specs.Terms.Trees.{children, row_take}
use Rattle.nts_store.specs.Growth.{tree_at}
use Rattle.nts_assembly.specs.Assumptions.{sorts_in}
use Rattle.nts_assembly.proofs.assumptions.sorts_of.Given as goal

abbrev pub invariant-loop-i : goal.invariant-loop-i
invariant-loop-i l = l.sorts.items ≡ sorts_in (row_take l.i (children (tree_at l.cx.nodes l.vars.node)))
