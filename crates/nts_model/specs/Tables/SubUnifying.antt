-- Sub-unification: which variables are of one class, and what joins classes.
use Rattle.std.specs.Prelude.{◌≡◌, ◌≢◌, ℕ, Some}
use Rattle.nts_model.specs.declared.labels.VariableKind.{VariableKind}
use Rattle.nts_model.specs.declared.labels.VariableKind.TheVariants as kind
use Rattle.nts_model.specs.Tables.Contents.{Content, link, state_of, kind_at, sub_link_of}

-- two variables of one class: links of sub-unification lead from one to the other, to and fro
pub data SharesSubRoot (c : Content) : ℕ → ℕ → Type 0 where
  itself : {n : ℕ} → SharesSubRoot c n n
  linked : {n m : ℕ} → sub_link_of c n ≡ Some (Some m) → SharesSubRoot c n m
  turned : {n m : ℕ} → SharesSubRoot c n m → SharesSubRoot c m n
  through : {n m k : ℕ} → SharesSubRoot c n m → SharesSubRoot c m k → SharesSubRoot c n k

-- since the table c, the variable n, which is no region, became one with m
pub record BecameOne (c d : Content) (n m : ℕ) : Type 0 where
  pub of_kind : VariableKind
  pub has : kind_at d n ≡ Some of_kind
  pub no_region : of_kind ≢ kind.Region
  pub was : (k : ℕ) → state_of c n ≡ Some (link k) → ⊥
  pub is : state_of d n ≡ Some (link m)

-- two variables that were of one class, or of classes that such variables join
pub data AreJoined (c d : Content) : ℕ → ℕ → Type 0 where
  before : {n m : ℕ} → SharesSubRoot c n m → AreJoined c d n m
  since : {n m : ℕ} → BecameOne c d n m → AreJoined c d n m
  back : {n m : ℕ} → AreJoined c d n m → AreJoined c d m n
  along : {n m k : ℕ} → AreJoined c d n m → AreJoined c d m k → AreJoined c d n k

-- afterwards two variables are of one class exactly if they were before, or were joined since; links stay
pub record JoinsSubRoots (c d : Content) : Type 0 where
  pub links : (n m : ℕ) → state_of c n ≡ Some (link m) → state_of d n ≡ Some (link m)
  pub only : (n m : ℕ) → SharesSubRoot d n m → AreJoined c d n m
  pub all : (n m : ℕ) → AreJoined c d n m → SharesSubRoot d n m
