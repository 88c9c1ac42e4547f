use Rattle.nts_model.specs.Terms.Trees.{children}
use Rattle.nts_store.specs.Growth.{tree_at}
use Rattle.nts_store.proofs.Levels.{IsAtLevel}
use Rattle.nts_store.proofs.levels_walk.all_listed.Given as goal

abbrev pub invariant-loop-level : goal.invariant-loop-level
invariant-loop-level l = IsAtLevel (children (tree_at l.nodes l.sorts)) (tree_at l.nodes l.fn.t) l.nodes l.level l.here.keys
