-- What relating whole pairs leaves in a table, by judgings in which erased and error regions are related with themselves alone.
use Rattle.std.specs.Prelude.{◌≡◌, ℕ, ◌+◌, ◌≤◌, ◌<◌, Bool, List, [], ◌∷◌, length}
use Rattle.nts_model.specs.Terms.Trees.{Tree, variable_tree}
use Rattle.nts_model.specs.declared.labels.VariableKind.{VariableKind}
use Rattle.nts_model.specs.declared.labels.Variance.{Variance}
use Rattle.nts_model.specs.declared.labels.Variance.TheVariants as variance
use Rattle.nts_model.specs.Tables.Contents.{Content}
use Rattle.nts_model.specs.declared.labels.Label.{Label}
use Rattle.nts_model.specs.Tables.Passing.{TreePasses, TablePasses}
use Rattle.nts_variance_model.specs.Variances.Leaving.{Leaves}
use Rattle.nts_model.specs.Tables.Resolving.{resolved, deeply_resolved, Knows, IsSound}
use Rattle.nts_model.specs.Tables.Measuring.{closed_aliases}
use Rattle.nts_model.specs.Tables.Holding.{Continues}
use Rattle.nts_variance_model.specs.Variances.AnsweredGoals.{AllAnswered}
use Rattle.nts_store.specs.declared.nodes.NodeId.{NodeId}
use Rattle.nts_store.specs.Growth.{tree_at}
use Rattle.nts_unify.specs.Entries.{Entries}
use Rattle.nts_unify.specs.Reading.{content_of, IsLawful}
use Rattle.nts_unify.specs.Changing.{unset_count}
use Rattle.nts_variance.specs.declared.along.Relating.{Relating as Goal}
use Rattle.nts_variance.specs.Walking.{IsTableGrown, IsMadeFor, RelatedSides, sides}
use Rattle.nts_variance.specs.Terms.{pairs_at, AreGoals, ArePairs}
use Rattle.nts_variance.specs.Due.{IsUnvalued, AreGoalsDue}
use Rattle.nts_relating.specs.Relating.{IsPlainIn}
use Rattle.nts_variance.specs.Passing.{PassesRows, PairsPass}
use Rattle.nts_variance.specs.Plain.{StaysPlain}

-- the variable x was made one with a tree that may be made for the term, which is no variable where the term is neither a variable
-- nor a closed alias, and the goals are left: under each later table in which these are answered the two are related. Invariantly
-- there are fewer variables without value than there were, together with the closed aliases of the term, and no tree has more or fewer
-- closed aliases than it had
pub record IsBound (declared : ℕ → List Variance) (z : Bool) (ts us : List Tree) (e f : Entries) (v : Variance) (k : VariableKind) (x : ℕ) (t : NodeId) (gs : List Goal) : Type 0 where
  pub lawful : IsLawful us f
  pub known : ArePairs us (content_of us f) gs
  pub later : IsTableGrown (content_of ts e) (content_of us f)
  pub continues : Continues (content_of ts e) (content_of us f)
  pub value : Tree
  pub made : IsMadeFor (content_of us f) (tree_at ts t) value
  pub same : deeply_resolved (content_of us f) (variable_tree k x) ≡ deeply_resolved (content_of us f) value
  pub related : (d : Content) → IsSound d → Continues (content_of us f) d → (ks : List Tree) → AllAnswered d ks (pairs_at us gs) → RelatedSides z declared d ks v (deeply_resolved d (variable_tree k x)) (deeply_resolved d (tree_at ts t))
  pub leaves : Leaves declared (content_of ts e) (content_of us f) (sides z v (variable_tree k x) (tree_at ts t) ∷ []) [] (pairs_at us gs)
  pub are_goals : AreGoals (pairs_at us gs)
  pub fewer : v ≡ variance.Invariant → unset_count (content_of us f).slots < unset_count (content_of ts e).slots + closed_aliases (resolved (content_of ts e) (tree_at ts t))
  pub aliases : v ≡ variance.Invariant → (a : Tree) → Knows (content_of ts e) a → closed_aliases (resolved (content_of us f) a) ≡ closed_aliases (resolved (content_of ts e) a)
  pub due : (b : Content) → length b.slots ≤ length (content_of ts e).slots → IsUnvalued b v (tree_at ts t) → AreGoalsDue b (content_of us f) (pairs_at us gs)
  pub passes : (P : Label → Bool) → PassesRows P → TablePasses P (content_of ts e) → TreePasses P (tree_at ts t) → TablePasses P (content_of us f) × PairsPass P (pairs_at us gs)
  pub plain : IsPlainIn (content_of ts e) (tree_at ts t) → StaysPlain (content_of ts e) (content_of us f)
