-- Lists of a store whose trees are replaced.
use Rattle.std.specs.Prelude.{◌≡◌, List, map, All}
use Rattle.nts_model.specs.Terms.Trees.{Tree}
use Rattle.nts_store.specs.Growth.{tree_at}
use Rattle.nts_terms.specs.declared.handles.GenericArg.{GenericArg}

abbrev pub argument_value : List Tree → GenericArg → Tree
argument_value ts x = tree_at ts x.node

-- in a store b these are images of those in a store a
pub record ReplacesEach {X V : Type 0} (holds : List Tree → X → Type 0) (view : List Tree → X → V) (image : V → V) (a b : List Tree) (xs ys : List X) : Type 0 where
  pub views : map (view b) ys ≡ map image (map (view a) xs)
  pub held : All (holds b) ys
