-- A candidate's goals as they are posed, and those of them that are asked.
use Rattle.std.specs.Prelude.{◌≡◌, ◌⊎◌, true, Bool, List, [], ◌∷◌, ◌++◌}
use Rattle.nts_model.specs.declared.labels.Label.{Label}
use Rattle.nts_model.specs.Lists.{Among}
use Rattle.nts_model.specs.Terms.Trees.{Tree}
use Rattle.nts_model.specs.Tables.Contents.{Content}
use Rattle.nts_model.specs.Tables.Passing.{TreePasses, TablePasses, PassesQueries}
use Rattle.nts_model.specs.Derivations.Sequents.{Premise}
use Rattle.nts_model.specs.Derivations.Rules.{GoalKind, coherence, IsHandlers, statement_of}
use Rattle.nts_theory.specs.AskedGoals.{is_asked}
use Rattle.nts_theory.specs.Posing.{PutsNew, PosesIn}
use Rattle.nts_terms.specs.declared.handles.Goal.{Goal}
use Rattle.nts_terms.specs.Modes.{mode_of}
use Rattle.nts_certainty.specs.declared.certainty.Certainty.{Certainty}
use Rattle.nts_certainty.specs.declared.sources.GoalSource.{GoalSource}
use Rattle.nts_unify.specs.Reading.{content_of}
use Rattle.nts_table.specs.Tables.{Table}
use Rattle.nts_meaning.specs.nts_search.specs.declared.kinds.CurrentGoalKind.{CurrentGoalKind}
use Rattle.nts_meaning.specs.nts_search.specs.Kinds.{goal_kind_of}
use Rattle.nts_meaning.specs.Evaluation.{goals_at}
use Rattle.nts_trying.specs.Asking.{KeepsAsked}
use Rattle.nts_trying.specs.Stepping.{ArePosed, terms_of}

-- a change brings no labels, and those goals have none, but those of these goals, and what any query's table may hold
pub record BringsPosed (ts us : List Tree) (c d : Content) (given posed : List (GoalSource × Goal)) : Type 0 where
  pub labels : (P : Label → Bool) → PassesQueries P → ((x : Tree) → Among (terms_of ts given) x → TreePasses P x) → TablePasses P c
      → TablePasses P d × ((x : Tree) → Among (terms_of us posed) x → TreePasses P x)

-- premises are posed one after the other: as it is one that is asked as it stands, and each other one with variables
pub data PosesEach (k : GoalKind) : Content → List Premise → Content → List Premise → Type 0 where
  none_left : {c : Content} → PosesEach k c [] c []
  stands : {c d : Content} {ps qs : List Premise} (p : Premise) → is_asked p.predicate ≡ true → PosesEach k c ps d qs → PosesEach k c (p ∷ ps) d (p ∷ qs)
  is_put : {c d e : Content} {ps qs : List Premise} (p : Premise) (xs : List Premise) → PutsNew k c p d xs → PosesEach k d ps e qs → PosesEach k c (p ∷ ps) e (xs ++ qs)

-- goals of a store and a table are posed for a goal of that kind: these stand for them in coherence, in a later store and table
pub record PosesGoals (k : CurrentGoalKind) (ts us : List Tree) (t u : Table) (given posed : List (GoalSource × Goal)) : Type 0 where
  pub each : PosesEach (goal_kind_of k) (content_of ts t.entries) (goals_at ts given) (content_of us u.entries) (goals_at us posed)
  pub of_table : ArePosed us u posed
  pub brings : BringsPosed ts us (content_of ts t.entries) (content_of us u.entries) given posed

-- what stands for the goal is behind what was posed before
pub record PosesBehind (k : CurrentGoalKind) (ts us : List Tree) (t u : Table) (g : GoalSource × Goal) (old new : List (GoalSource × Goal)) : Type 0 where
  pub more : List (GoalSource × Goal)
  pub poses : PosesGoals k ts us t u (g ∷ []) more
  pub behind : new ≡ old ++ more

-- goals of a candidate for a goal of that kind, which says this, are posed in the table's mode: as they are; but in coherence, where it is
-- one of a handler's rules, so that each that isn't asked as it stands has variables in place of its aliases
pub record PosesFor (k : CurrentGoalKind) (says : Tree) (ts us : List Tree) (t u : Table) (given new : List (GoalSource × Goal)) : Type 0 where
  pub poses : PosesIn (mode_of t.mode) (goal_kind_of k) (content_of ts t.entries) (goals_at ts given) (content_of us u.entries) (goals_at us new)
  pub of_table : ArePosed us u new
  pub brings : BringsPosed ts us (content_of ts t.entries) (content_of us u.entries) given new
  pub due : mode_of t.mode ≡ coherence → IsHandlers (statement_of says) → PosesEach (goal_kind_of k) (content_of ts t.entries) (goals_at ts given) (content_of us u.entries) (goals_at us new)
  pub changes : (us ≡ ts) × (u ≡ t) × (new ≡ given) ⊎ IsHandlers (statement_of says)

-- .. and of these some are asked
pub record PosesAsked (k : CurrentGoalKind) (says : Tree) (ts us : List Tree) (t u : Table) (given asked : List (GoalSource × Goal)) (y : Certainty) : Type 0 where
  pub between : List (GoalSource × Goal)
  pub posed : PosesFor k says ts us t u given between
  pub keeps : KeepsAsked us (mode_of t.mode) between asked y
