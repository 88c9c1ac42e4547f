-- What keeps a table solvable.
use Rattle.std.specs.Prelude.{◌≡◌, ℕ, Some}
use Rattle.nts_model.specs.declared.labels.VariableKind.{VariableKind}
use Rattle.nts_model.specs.Terms.Trees.{Tree}
use Rattle.nts_model.specs.Tables.Contents.{Content, known, state_of, kind_at}
use Rattle.nts_model.specs.Tables.Levels.{IsLevelled}
use Rattle.nts_model.specs.Tables.Worlds.{IsValue, KnowsAll}
use Rattle.nts_model.specs.Tables.RegionClasses.{AllRegions}

-- each value is named by its variable's universe, and is a closed tree that the variable may stand for; the
-- sides of the constraints are of the table, and those of the equalities are regions
pub record IsSolvable (c : Content) : Type 0 where
  pub levelled : IsLevelled c
  pub values : (n : ℕ) (t : Tree) (k : VariableKind) → state_of c n ≡ Some (known t) → kind_at c n ≡ Some k → IsValue k t
  pub sides : KnowsAll c c.constraints
  pub regions : AllRegions c.constraints
