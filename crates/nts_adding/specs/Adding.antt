-- What is added where goals are to hold.
use Rattle.std.specs.Prelude.{◌≡◌, List, [], ◌∷◌, ◌++◌, map, All}
use Rattle.nts_model.specs.Terms.Trees.{Tree}
use Rattle.nts_model.specs.Derivations.Rules.{step_kind}
use Rattle.nts_terms.specs.declared.handles.Goal.{Goal}
use Rattle.nts_certainty.specs.declared.sources.GoalSource.{GoalSource}
use Rattle.nts_certainty.specs.declared.sources.GoalSource.TheVariants as source
use Rattle.nts_certainty.specs.declared.sources.PathKind.{PathKind}
use Rattle.nts_candidates.specs.Offered.{source_of, path_kind_of}
use Rattle.nts_meaning.specs.nts_search.specs.declared.kinds.CurrentGoalKind.{CurrentGoalKind}
use Rattle.nts_meaning.specs.nts_search.specs.Kinds.{goal_kind_of}
use Rattle.nts_unify.specs.Entries.{Entries}
use Rattle.nts_table.specs.Tables.{Table}
use Rattle.nts_meaning.specs.Evaluation.{IsPosed}
use Rattle.nts_adding.specs.Replacing.{StandFor}

-- what stands for the goal, with sources: the goals of its aliases are asked as the goal is, by a step of that kind
pub record AddsFor (ts us : List Tree) (e f : Entries) (k : CurrentGoalKind) (s : GoalSource) (g : Goal) (added : List (GoalSource × Goal)) : Type 0 where
  pub relations : List Goal
  pub last : Goal
  pub stand : StandFor ts us e f g relations last
  pub step : PathKind
  pub kind : path_kind_of step ≡ step_kind (goal_kind_of k) (source_of s)
  pub is : added ≡ map (λ x. (source.NormalizeGoal step, x)) relations ++ (s, last) ∷ []

-- .. for each of the goals, one after the other
abbrev pub AddsEach : List Tree → List Tree → Entries → Entries → CurrentGoalKind → GoalSource → List Goal → List (GoalSource × Goal) → Type 0
AddsEach ts us e f k s [] added = (us ≡ ts) × (f ≡ e) × (added ≡ [])
AddsEach ts us e f k s (g ∷ gs) added =
    (ms : List Tree) × (m : Entries) × (xs : List (GoalSource × Goal)) × (ys : List (GoalSource × Goal))
    × AddsFor ts ms e m k s g xs × AddsEach ms us m f k s gs ys × (added ≡ xs ++ ys)

-- goals with sources that are of the store and the table
abbrev pub ArePosedIn : List Tree → Table → List (GoalSource × Goal) → Type 0
ArePosedIn ts t gs = All (λ z. IsPosed ts t z.1) gs

-- what stands for the goal is behind what was added before
pub record AddsBehind (ts us : List Tree) (t u : Table) (k : CurrentGoalKind) (s : GoalSource) (g : Goal) (old new : List (GoalSource × Goal)) : Type 0 where
  pub more : List (GoalSource × Goal)
  pub adds : AddsFor ts us t.entries u.entries k s g more
  pub posed : ArePosedIn us u more
  pub behind : new ≡ old ++ more
