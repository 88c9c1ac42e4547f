-- Two lists of arguments that are related: their pairs, and what relating them leaves.
use Rattle.std.specs.Prelude.{◌≡◌, ◌⊎◌, ℕ, ◌≤◌, List, [], Some}
use Rattle.nts_model.specs.declared.labels.Variance.{Variance}
use Rattle.nts_model.specs.declared.labels.Variance.TheVariants as variance
use Rattle.nts_model.specs.Terms.Trees.{Tree, children, row_length, kind_of, arguments}
use Rattle.nts_model.specs.Tables.Contents.{Content}
use Rattle.nts_model.specs.Tables.Resolving.{Knows}
use Rattle.nts_variance_model.specs.Variances.Forms.{pairs_over}
use Rattle.nts_variance_model.specs.Variances.Leaving.{Refuses}
use Rattle.nts_variance_model.specs.Variances.Relations.{Relating as Pair}
use Rattle.nts_store.specs.declared.nodes.NodeId.{NodeId}
use Rattle.nts_store.specs.Growth.{tree_at, IsIn}
use Rattle.nts_unify.specs.Entries.{Entries}
use Rattle.nts_unify.specs.Reading.{content_of, IsLawful}
use Rattle.nts_unify.specs.Knowing.{row_from}
use Rattle.nts_variance.specs.declared.along.Relating.{Relating}
use Rattle.nts_variance.specs.Terms.{pairs_at, AreGoals, ArePairs}
use Rattle.nts_variance.specs.Due.{AreGoalsOfAliases}
use Rattle.nts_variance.specs.Taking.{Takes}

-- a list of arguments of the store and the table
pub record IsListOf (ts : List Tree) (c : Content) (t : NodeId) : Type 0 where
  pub within : IsIn ts t
  pub knows : Knows c (tree_at ts t)
  pub kind : kind_of (tree_at ts t) ≡ Some arguments

-- the pairs of two rows, and of two lists of arguments; none varies
abbrev pub row_pairs : Tree → Tree → List Pair
row_pairs a b = pairs_over variance.Invariant [] a b

abbrev pub argument_pairs : Tree → Tree → List Pair
argument_pairs a b = row_pairs (children a) (children b)

-- relating the lists a and b, which are of one length, leaves goals of aliases alone: under each later table that answers them the
-- arguments are related, and each settled solution in which they settle goes on to one in which the goals settle
pub record RowsRelate (declared : ℕ → List Variance) (ts us : List Tree) (e f : Entries) (a b : Tree) (gs : List Relating) : Type 0 where
  pub long : row_length (children a) ≡ row_length (children b)
  pub known : ArePairs us (content_of us f) gs
  pub are_goals : AreGoals (pairs_at us gs)
  pub takes : Takes declared (content_of ts e) (content_of us f) (argument_pairs a b) [] (pairs_at us gs)
  pub due : AreGoalsOfAliases (pairs_at us gs)

-- the lists are not of one length, or no settled solution of the table relates their arguments
abbrev pub RefusesRows : (ℕ → List Variance) → Content → Tree → Tree → Type 0
RefusesRows declared c a b = (row_length (children a) ≡ row_length (children b) → ⊥) ⊎ Refuses declared c (argument_pairs a b)

-- the arguments before the place i are related, which left goals of aliases alone, and those from it on are left
pub record AreRelatedTo (declared : ℕ → List Variance) (ts us : List Tree) (e f : Entries) (a b : Tree) (i : ℕ) (gs : List Relating) : Type 0 where
  pub lawful : IsLawful us f
  pub place : i ≤ row_length (children a)
  pub known : ArePairs us (content_of us f) gs
  pub are_goals : AreGoals (pairs_at us gs)
  pub takes : Takes declared (content_of ts e) (content_of us f) (argument_pairs a b) (row_pairs (row_from i (children a)) (row_from i (children b))) (pairs_at us gs)
  pub due : AreGoalsOfAliases (pairs_at us gs)
