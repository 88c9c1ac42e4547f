-- By what a goal is answered.
use Rattle.std.specs.Prelude.{◌≡◌, List, Option, Some, None}
use Rattle.nts_model.specs.Terms.Trees.{Tree}
use Rattle.nts_store.specs.Growth.{tree_at}
use Rattle.nts_terms.specs.declared.handles.Goal.{Goal}
use Rattle.nts_meaning.specs.Evaluation.{IsAskedGoal}
use Rattle.nts_model.specs.Derivations.Related.{Constraint}
use Rattle.nts_trying.specs.Outliving.{OutlivesIn, IsOutlivesGoal}
use Rattle.nts_trying.specs.Owning.{IsOwnGoal, StatesOwn}
use Rattle.nts_trying.specs.Subtyping.{IsSubtypeGoal, SubtypeIn}
use Rattle.nts_trying.specs.Aliasing.{AliasGoalIn, IsEquatedGoal}
use Rattle.nts_trying.specs.declared.kinds.GoalRow.{GoalRow}
use Rattle.nts_trying.specs.declared.kinds.GoalRow.TheVariants as row

-- no candidates of a handler, no region constraint and no row of the engine's own answer the goal
pub record IsNoneBefore (ts : List Tree) (g : Goal) : Type 0 where
  pub not_asked : IsAskedGoal ts g → ⊥
  pub no_outlives : (x : Constraint) → OutlivesIn ts g x → ⊥
  pub not_own : StatesOwn (tree_at ts g.param_env.node) (tree_at ts g.predicate.node) → ⊥

-- the goal that was opened is the row's; a handler's candidates answer it exactly if it is one that handlers are asked, or one about
-- an alias, a region constraint does exactly if it says that something outlives a region, the engine by itself exactly if it is of its own
-- kinds, relating exactly if it says that one type is a subtype of another; and normalizing only if it says that an alias is equal to a term
abbrev pub IsRowOf : List Tree → Option Goal → GoalRow → Type 0
IsRowOf ts opened (row.Candidates g) = (opened ≡ Some g) × IsAskedGoal ts g
IsRowOf ts opened (row.Outlives g x) = (opened ≡ Some g) × IsOutlivesGoal ts g x × (IsAskedGoal ts g → ⊥)
IsRowOf ts opened (row.Own g o) = (opened ≡ Some g) × IsOwnGoal ts g o
IsRowOf ts opened (row.Subtype g p) = (opened ≡ Some g) × IsSubtypeGoal ts g p × IsNoneBefore ts g
IsRowOf ts opened (row.Alias g) = (opened ≡ Some g) × AliasGoalIn ts g × IsNoneBefore ts g
IsRowOf ts opened (row.Equated g r) = (opened ≡ Some g) × IsEquatedGoal ts g r × IsNoneBefore ts g
IsRowOf ts opened (row.Unanswered g) = (opened ≡ Some g) × IsNoneBefore ts g × ((a b : Tree) → SubtypeIn ts g a b → ⊥) × (AliasGoalIn ts g → ⊥)
IsRowOf ts opened row.Unopened = opened ≡ None
