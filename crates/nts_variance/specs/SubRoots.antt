-- Classes of sub-unification in a table that has grown.
use Rattle.std.specs.Prelude.{◌≡◌, ◌≢◌, ℕ, ◌≤◌, ◌<◌, length, Option, Some}
use Rattle.nts_model.specs.declared.labels.VariableKind.{VariableKind}
use Rattle.nts_model.specs.declared.labels.VariableKind.TheVariants as kind
use Rattle.nts_model.specs.Terms.Trees.{variable_tree}
use Rattle.nts_model.specs.Tables.Contents.{Content, link, state_of, kind_at}
use Rattle.nts_model.specs.Tables.Holding.{AreOne}
use Rattle.nts_model.specs.Tables.SubUnifying.{SharesSubRoot, BecameOne}

-- two variables that were of one class, or of classes that are joined since: by variables that became one, or by a new variable and the
-- one whose class it was made in, which `made_in` tells of each new variable
pub data AreJoinedSince (made_in : ℕ → Option ℕ) (c d : Content) : ℕ → ℕ → Type 0 where
  was : {n m : ℕ} → SharesSubRoot c n m → AreJoinedSince made_in c d n m
  became : {n m : ℕ} → BecameOne c d n m → AreJoinedSince made_in c d n m
  made : {n m : ℕ} → length c.slots ≤ n → n < length d.slots → made_in n ≡ Some m → AreJoinedSince made_in c d n m
  reversed : {n m : ℕ} → AreJoinedSince made_in c d n m → AreJoinedSince made_in c d m n
  onward : {n m k : ℕ} → AreJoinedSince made_in c d n m → AreJoinedSince made_in c d m k → AreJoinedSince made_in c d n k

-- afterwards two variables are of one class exactly if they were before, or were joined since; links stay
pub record GrowsSubRoots (c d : Content) : Type 0 where
  pub made_in : ℕ → Option ℕ
  pub links : (n m : ℕ) → state_of c n ≡ Some (link m) → state_of d n ≡ Some (link m)
  pub only : (n m : ℕ) → SharesSubRoot d n m → AreJoinedSince made_in c d n m
  pub all : (n m : ℕ) → AreJoinedSince made_in c d n m → SharesSubRoot d n m

-- two variables that are of one class of sub-unification, or of one kind and one under the table, or lead to each other by such
pub data AreAkin (c : Content) : ℕ → ℕ → Type 0 where
  shared : {n m : ℕ} → SharesSubRoot c n m → AreAkin c n m
  one : {n m : ℕ} {k : VariableKind} → kind_at c n ≡ Some k → kind_at c m ≡ Some k → AreOne c (variable_tree k n) (variable_tree k m) → AreAkin c n m
  by_way : {n m k : ℕ} → AreAkin c n m → AreAkin c m k → AreAkin c n k

-- each variable that the second table has beyond the first, and that is no region, was made for one: it is akin to a variable of the
-- first, of its kind
pub record FoundsVariables (c d : Content) : Type 0 where
  pub founded : (n : ℕ) (k : VariableKind) → length c.slots ≤ n → kind_at d n ≡ Some k → k ≢ kind.Region → (m : ℕ) × (kind_at c m ≡ Some k) × AreAkin d n m
