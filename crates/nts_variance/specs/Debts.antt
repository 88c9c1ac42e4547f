-- What the walk that makes a term keeps, so that each goal which it hands out is one.
use Rattle.std.specs.Prelude.{◌≡◌, ◌≢◌, ◌⊎◌, ℕ, ◌≤◌, ◌<◌, true, List, [], ◌∷◌}
use Rattle.nts_model.specs.declared.labels.Variance.{Variance}
use Rattle.nts_model.specs.declared.labels.Variance.TheVariants as variance
use Rattle.nts_model.specs.Terms.Trees.{Tree, empty, kind_of, IsClosedUnder}
use Rattle.nts_model.specs.Tables.Contents.{Content}
use Rattle.nts_variance_model.specs.Variances.Forms.{over}
use Rattle.nts_variance.specs.Steps.{WalkStep, enter, build, owe, popped, unpopped}
use Rattle.nts_variance.specs.Terms.{IsGoal}
use Rattle.nts_model.specs.Derivations.Related.{IsAlias}
use Rattle.nts_variance.specs.Due.{IsTypeVariable, GotValue, IsUnvalued}

-- what the tree s that was made for the part t has of it: where no bound variable escapes from t, none escapes from s, and the two are
-- of one kind; and where the part varies, s is a type variable for a type variable alone, or for an alias, with a number from n on
pub record IsClosedLike (n : ℕ) (v : Variance) (t s : Tree) : Type 0 where
  pub closed : (b : ℕ) → IsClosedUnder b t → IsClosedUnder b s
  pub kind : kind_of s ≡ kind_of t
  pub variable : v ≢ variance.Invariant → (m : ℕ) → IsTypeVariable s m → ((k : ℕ) × IsTypeVariable t k) ⊎ (IsAlias t × (n ≤ m))

-- the tree s is no type variable with a number below n, if the part t is one
abbrev pub IsNoOlder : ℕ → Tree → Tree → Type 0
IsNoOlder n t s = (m : ℕ) → IsTypeVariable t m → m < n → (k : ℕ) → IsTypeVariable s k → n ≤ k

-- whatever is made for the parts that are to be entered, what is owed to a part is a goal, and is no type variable with a number below
-- n, if the part is one
abbrev pub OweGoals : ℕ → List WalkStep → List Tree → Type 0
OweGoals n [] ss = Unit {0}
OweGoals n (enter v q t ∷ xs) ss = (s : Tree) → IsClosedLike n v t s → OweGoals n xs (s ∷ ss)
OweGoals n (build F m ∷ xs) ss = OweGoals n xs (over F (popped m ss empty) ∷ unpopped m ss)
OweGoals n (owe v t ∷ xs) [] = ⊥
OweGoals n (owe v t ∷ xs) (s ∷ ss) = IsGoal (record { variance = v; left = s; right = t }) × IsNoOlder n t s × OweGoals n xs (s ∷ ss)

-- the parts that are to be entered can ask for no goal but of aliases and of variables that had no value in the table b, unless a goal
-- around them says all; and a variable that is owed what was made got its value since, in the table c
abbrev pub AreUnvaluedSteps : Content → Content → List WalkStep → Type 0
AreUnvaluedSteps b c [] = Unit {0}
AreUnvaluedSteps b c (enter v q t ∷ xs) = ((q ≡ true) ⊎ IsUnvalued b v t) × AreUnvaluedSteps b c xs
AreUnvaluedSteps b c (build F n ∷ xs) = AreUnvaluedSteps b c xs
AreUnvaluedSteps b c (owe v t ∷ xs) = ((v ≢ variance.Invariant) × GotValue b c t) × AreUnvaluedSteps b c xs
