-- New variables of a table that are one with variables that it had.
use Rattle.std.specs.Prelude.{◌≡◌, ◌≢◌, ℕ, ◌≤◌, ◌<◌, length, Some}
use Rattle.nts_model.specs.declared.labels.VariableKind.{VariableKind}
use Rattle.nts_model.specs.declared.labels.VariableKind.TheVariants as kind
use Rattle.nts_model.specs.Tables.Contents.{Content, kind_at}
use Rattle.nts_model.specs.Terms.Trees.{variable_tree}
use Rattle.nts_model.specs.Tables.Holding.{AreOne}

-- each variable that the second table has beyond the first, and that is no region, is one with a variable of the first
pub record TiesNew (c d : Content) : Type 0 where
  pub tied : (n : ℕ) (k : VariableKind) → length c.slots ≤ n → kind_at d n ≡ Some k → k ≢ kind.Region
      → (m : ℕ) × (m < length c.slots) × (kind_at d m ≡ Some k) × AreOne d (variable_tree k n) (variable_tree k m)
