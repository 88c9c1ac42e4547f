-- The goals of a candidate that is tried.
use Rattle.std.specs.Prelude.{◌≡◌, Bool, List, map}
use Rattle.nts_model.specs.declared.labels.Label.{Label}
use Rattle.nts_model.specs.Terms.Trees.{Tree}
use Rattle.nts_model.specs.Lists.{Among}
use Rattle.nts_model.specs.Tables.Passing.{TreePasses, PassesQueries}
use Rattle.nts_certainty.specs.declared.sources.GoalSource.{GoalSource}
use Rattle.nts_store.specs.declared.nodes.NodeId.{NodeId}
use Rattle.nts_store.specs.Growth.{tree_at}
use Rattle.nts_terms.specs.declared.handles.Goal.{Goal}
use Rattle.nts_table.specs.Tables.{Table}
use Rattle.nts_candidates.specs.declared.data.CandidateGoal.{CandidateGoal}
use Rattle.nts_candidates.specs.Offered.{premise_of}
use Rattle.nts_meaning.specs.Evaluation.{asked_terms, goals_at}
use Rattle.nts_theory.specs.RelatingCandidates.{goals_with}
use Rattle.nts_trying.specs.Stepping.{ArePosed, terms_of}

-- these are the goals of a candidate for the goal g, with the values in place of its positions, in the store b that has grown
-- from a. They have no labels but those of g, and what any query's table may hold
pub record AreAdded (a b : List Tree) (t : Table) (g : Goal) (vs : List NodeId) (hs : List CandidateGoal) (gs : List (GoalSource × Goal)) : Type 0 where
  pub posed : ArePosed b t gs
  pub goals : goals_at b gs ≡ goals_with (map (tree_at a) vs) (map (premise_of a) hs)
  pub labels : (P : Label → Bool) → PassesQueries P → ((x : Tree) → Among (asked_terms a g) x → TreePasses P x) → (x : Tree) → Among (terms_of b gs) x → TreePasses P x
