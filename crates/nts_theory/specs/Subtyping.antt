-- Goals that one type is a subtype of another, or can be coerced to it: what they are, and what relating the two leaves of them.
use Rattle.std.specs.Prelude.{◌≡◌, ℕ, Bool, List, [], ◌∷◌, map}
use Rattle.nts_model.specs.declared.labels.Variance.{Variance}
use Rattle.nts_model.specs.declared.labels.Variance.TheVariants as variance
use Rattle.nts_model.specs.declared.labels.PredicateHead.TheVariants as predicate
use Rattle.nts_model.specs.declared.labels.Label.TheVariants as label
use Rattle.nts_model.specs.Terms.Trees.{Tree, node, IsClosed, IsFormed}
use Rattle.nts_model.specs.Tables.Contents.{Content}
use Rattle.nts_model.specs.Derivations.Related.{pair, unbound}
use Rattle.nts_model.specs.Derivations.Sequents.{Premise}
use Rattle.nts_model.specs.Derivations.Rules.{relating}
use Rattle.nts_variance_model.specs.Variances.AnsweredGoals.{RelatesBy}
use Rattle.nts_variance_model.specs.Variances.Leaving.{Leaves, Refuses}
use Rattle.nts_variance_model.specs.Variances.RelatingBy.{AreGoalsOf}
use Rattle.nts_variance_model.specs.Variances.Relations.{Relating}

-- what a statement says of two types: that the first is a subtype of the second, or can be coerced to it
pub data SaysSubtype (a b : Tree) : Tree → Type 0 where
  is_subtype : (x : Bool) → SaysSubtype a b (node (label.Predicate (predicate.Subtype x)) (pair a b))
  is_coerced : SaysSubtype a b (node (label.Predicate predicate.Coerce) (pair a b))

-- a goal that says so, and binds nothing
pub record IsSubtyping (g a b : Tree) : Type 0 where
  pub statement : Tree
  pub binds_nothing : g ≡ unbound statement
  pub says : SaysSubtype a b statement
  pub formed : IsFormed statement
  pub closed : IsClosed statement

-- the first is to be a subtype of the second
abbrev pub as_subtype : Tree → Tree → List Relating
as_subtype a b = record { variance = variance.Covariant; left = a; right = b } ∷ []

-- relating the pairs, from the table c to the table d, leaves goals alone: under each later table in which they are answered the pairs
-- are related, and each settled solution in which the pairs settle goes on to one in which the goals do
pub record LeavesGoals (declared : ℕ → List Variance) (c d : Content) (ps gs : List Relating) : Type 0 where
  pub relates : RelatesBy declared d ps [] gs
  pub leaves : Leaves declared c d ps [] gs

-- the two types of a goal in an environment were related, and these premises are left of it
pub record LeavesPremises (declared : ℕ → List Variance) (c d : Content) (e g : Tree) (ps : List Premise) : Type 0 where
  pub left : Tree
  pub right : Tree
  pub is : IsSubtyping g left right
  pub pairs : List Relating
  pub related : LeavesGoals declared c d (as_subtype left right) pairs
  pub goals : List Tree
  pub of_pairs : AreGoalsOf pairs goals
  pub premises : ps ≡ map (relating e) goals

-- .. no settled solution relates them
pub record IsNoSubtype (declared : ℕ → List Variance) (c : Content) (g : Tree) : Type 0 where
  pub left : Tree
  pub right : Tree
  pub is : IsSubtyping g left right
  pub refused : Refuses declared c (as_subtype left right)
