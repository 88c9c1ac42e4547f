-- Where goals that are asked in steps stop: at one that is refused, or that is cut as a cycle.
use Rattle.std.specs.Prelude.{◌≡◌, ◌⊎◌, List}
use Rattle.nts_model.specs.Terms.Trees.{Tree}
use Rattle.nts_model.specs.Lists.{Among}
use Rattle.nts_model.specs.Tables.Contents.{Content}
use Rattle.nts_model.specs.Tables.Resolving.{deeply_resolved}
use Rattle.nts_model.specs.Derivations.Rules.{step_kind}
use Rattle.nts_theory.specs.Telling.{CanAsk}
use Rattle.nts_certainty.specs.declared.sources.GoalSource.{GoalSource}
use Rattle.nts_certainty.specs.declared.sources.PathKind.{PathKind}
use Rattle.nts_store.specs.Growth.{tree_at}
use Rattle.nts_terms.specs.declared.handles.Goal.{Goal}
use Rattle.nts_terms.specs.declared.modes.TypingMode.{TypingMode}
use Rattle.nts_terms.specs.Modes.{mode_of}
use Rattle.nts_candidates.specs.Offered.{path_kind_of, source_of}
use Rattle.nts_meaning.specs.nts_search.specs.declared.stack.SearchGraph.{SearchGraph}
use Rattle.nts_meaning.specs.nts_search.specs.declared.kinds.CurrentGoalKind.{CurrentGoalKind}
use Rattle.nts_meaning.specs.nts_search.specs.Kinds.{goal_kind_of}
use Rattle.nts_meaning.specs.Evaluation.{goals_at}
use Rattle.nts_meaning.specs.Searching.{IsGoalCut}
use Rattle.nts_meaning.specs.Telling.{Ruling, Reaches, Refused}

-- some of the goals were asked, which came to a table, and then it is the turn of one of them
pub record Turn (h : Ruling) (mode : TypingMode) (a : List Tree) (c : Content) (gs : List (GoalSource × Goal)) : Type 0 where
  pub goal : GoalSource × Goal
  pub among : Among gs goal
  pub table : Content
  pub reaches : Reaches h (mode_of mode) (goals_at a gs) c table
  pub can_ask : CanAsk table

-- it is refused there: by its query, or since no solution of the table grants the response
abbrev pub IsTurnRefused : (h : Ruling) (mode : TypingMode) (a : List Tree) (c : Content) (gs : List (GoalSource × Goal)) → Turn h mode a c gs → Type 0
IsTurnRefused h mode a c gs x =
    (let g = x.goal.1 in Refused h (mode_of mode) x.table (deeply_resolved x.table (tree_at a g.param_env.node)) (deeply_resolved x.table (tree_at a g.predicate.node)))

-- it is cut there as a cycle of the search, by a step from a goal of the kind z
abbrev pub IsTurnCut : SearchGraph → CurrentGoalKind → (h : Ruling) (mode : TypingMode) (a : List Tree) (c : Content) (gs : List (GoalSource × Goal)) → Turn h mode a c gs → Type 0
IsTurnCut s z h mode a c gs x =
    (k : PathKind) × (path_kind_of k ≡ step_kind (goal_kind_of z) (source_of x.goal.0))
    × (let g = x.goal.1 in IsGoalCut a s x.table mode (deeply_resolved x.table (tree_at a g.param_env.node)) (deeply_resolved x.table (tree_at a g.predicate.node)) k)

-- one of the goals is refused after others were asked; or, in a search, one is cut
abbrev pub RefusesAmong : Ruling → TypingMode → List Tree → Content → List (GoalSource × Goal) → Type 0
RefusesAmong h mode a c gs = (x : Turn h mode a c gs) × IsTurnRefused h mode a c gs x

abbrev pub StopsIn : SearchGraph → CurrentGoalKind → Ruling → TypingMode → List Tree → Content → List (GoalSource × Goal) → Type 0
StopsIn s z h mode a c gs = (x : Turn h mode a c gs) × (IsTurnRefused h mode a c gs x ⊎ IsTurnCut s z h mode a c gs x)
