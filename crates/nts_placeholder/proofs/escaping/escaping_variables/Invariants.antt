use Rattle.nts_store.specs.Growth.{tree_at}
use Rattle.nts_placeholder.proofs.Finding.{IsAtLevel}
use Rattle.nts_placeholder.proofs.escaping.escaping_variables.Given as goal

abbrev pub invariant-loop-level : goal.invariant-loop-level
invariant-loop-level l = IsAtLevel (tree_at l.nodes l.fn.t) l.nodes l.level l.here.keys l.found.items
