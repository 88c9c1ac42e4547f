use Rattle.nts_model.specs.Terms.Trees.{children, row_take}
use Rattle.nts_store.specs.Growth.{tree_at, trees_at, AllIn}
use Rattle.nts_unify.specs.Reading.{content_of}
use Rattle.nts_relating.specs.Relating.{Generalized}
use Rattle.nts_relating.specs.Parts.{inner}
use Rattle.nts_relating.proofs.value_walk.build.Given as goal

abbrev pub invariant-loop-i : goal.invariant-loop-i
invariant-loop-i l = record {
  all : AllIn l.nodes l.children.items;
  so_far : Generalized (content_of l.nodes l.table.entries) (content_of l.nodes l.table.entries) l.fn.target.variable l.fn.target.universe (inner l.part.binders (tree_at l.nodes l.part.term)) (row_take l.i (children (tree_at l.nodes l.part.term))) (trees_at l.nodes l.children.items);
}
