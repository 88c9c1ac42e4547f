-- A deep type with a bound variable at its bottom, for the tests.
use Rattle.std.proofs.Common.{◌≡◌, List, [], ◌∷◌, Some}
use Rattle.nts_model.specs.declared.labels.Sort.TheVariants as sort
use Rattle.nts_model.specs.Terms.Trees.{Tree, of_sort, kind_of}
use Rattle.nts_store.specs.declared.nodes.NodeId.{NodeId}
use Rattle.nts_store.specs.Growth.{tree_at, IsIn}
use Rattle.nts_store.specs.Filled.{HasValues}

pub record Nested (ts : List Tree) (value deep expected : NodeId) : Type 0 where
  pub value_in : IsIn ts value
  pub deep_in : IsIn ts deep
  pub deep_kind : kind_of (tree_at ts deep) ≡ Some (of_sort sort.Ty)
  pub expected_in : IsIn ts expected
  pub expected_kind : kind_of (tree_at ts expected) ≡ Some (of_sort sort.Ty)
  pub values : HasValues (tree_at ts value ∷ []) (tree_at ts deep)
