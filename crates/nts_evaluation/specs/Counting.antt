-- Goals are asked in steps, and the steps are counted.
use Rattle.std.specs.Prelude.{◌≡◌, ◌⊎◌, ℕ, ◌+◌, Bool, true, false, ◌||◌, List, [], ◌∷◌, ◌++◌, Result, Ok, Err}
use Rattle.nts_model.specs.Tables.Resolving.{deeply_resolved}
use Rattle.nts_model.specs.Derivations.Handlers.{Handler}
use Rattle.nts_store.specs.declared.fault.EvalError.{EvalError}
use Rattle.nts_store.specs.Growth.{tree_at}
use Rattle.nts_terms.specs.declared.cx.Cx.{Cx}
use Rattle.nts_terms.specs.declared.modes.TypingMode.{TypingMode}
use Rattle.nts_terms.specs.declared.handles.Goal.{Goal}
use Rattle.nts_unify.specs.Reading.{content_of}
use Rattle.nts_table.specs.Tables.{Table}
use Rattle.nts_certainty.specs.declared.certainty.Certainty.{Certainty}
use Rattle.nts_certainty.specs.declared.sources.GoalSource.{GoalSource}
use Rattle.nts_certainty.specs.declared.sources.HasChanged.{HasChanged}
use Rattle.nts_certainty.specs.declared.sources.HasChanged.TheVariants as changes
use Rattle.nts_candidates.specs.Offered.{certainty_of}
use Rattle.nts_meaning.specs.Telling.{Ruling}
use Rattle.nts_meaning.specs.Meant.{EvaluatesUnder}
use Rattle.nts_meaning.specs.declared.response.Evaluated.{Evaluated}
use Rattle.nts_trying.specs.Stepping.{bound_of, left_after}
use Rattle.nts_trying.specs.declared.steps.AvailableDepth.{AvailableDepth}

-- a goal of a table, as the table knows it, is answered so at once: the store has fast paths, and the handler's says so
pub record AnsweredAtOnce (h : Handler) (a : Cx) (t : Table) (g : Goal) (c : Certainty) : Type 0 where
  pub on : a.disable_fast_paths ≡ false
  pub answers : (let k = content_of a.nodes t.entries in h.at_once (deeply_resolved k (tree_at a.nodes g.param_env.node)) (deeply_resolved k (tree_at a.nodes g.predicate.node)) (certainty_of c))

-- a goal is asked as the table knows it; or not at all, where it is answered at once, or no depth is left for it. Then the table is as it
-- was, and nothing is found out
abbrev pub AsksOrSkips : Ruling → TypingMode → AvailableDepth → Cx → Table → Cx → Table → Goal → Evaluated → Type 0
AsksOrSkips m mode depth a t b u g e =
    EvaluatesUnder m mode a.nodes t b.nodes u g e.certainty e.has_changed
    ⊎ ((bound_of depth ≡ 0) ⊎ AnsweredAtOnce m.handler a t g e.certainty) × (u.entries ≡ t.entries) × (e.has_changed ≡ changes.No)

-- .. in a store and a table, which are others afterwards
abbrev pub AsksOnce : Ruling → TypingMode → AvailableDepth → Cx × Table → Cx × Table → GoalSource × Goal → Evaluated → Type 0
AsksOnce m mode depth x y g e = AsksOrSkips m mode depth x.0 x.1 y.0 y.1 g.1 e

abbrev pub finds_out : HasChanged → Bool
finds_out changes.No = false
finds_out changes.Yes = true

-- each of these goals is asked once, in order: those that are not certain are left; and whether something was found out
pub data AsksEach {X : Type 0} (Asks : X → X → GoalSource × Goal → Evaluated → Type 0) (x : X) : List (GoalSource × Goal) → X → List (GoalSource × Goal) → Bool → Type 0 where
  asks_none : AsksEach Asks x [] x [] false
  then_asks : {gs left : List (GoalSource × Goal)} {y z : X} {found : Bool} (g : GoalSource × Goal) (e : Evaluated) → AsksEach Asks x gs y left found → Asks y z g e → AsksEach Asks x (gs ++ g ∷ []) z (left_after left g e.certainty) (found || finds_out e.has_changed)

-- so many steps are made, each with the goals that the one before left: each but the last finds something out, and the last if it is so said
pub data MakesSteps {X : Type 0} (Asks : X → X → GoalSource × Goal → Evaluated → Type 0) (x : X) (gs : List (GoalSource × Goal)) : ℕ → X → List (GoalSource × Goal) → Bool → Type 0 where
  no_step : MakesSteps Asks x gs 0 x gs true
  then_steps : {n : ℕ} {y z : X} {before left : List (GoalSource × Goal)} {found : Bool} → MakesSteps Asks x gs n y before true → AsksEach Asks y before z left found → MakesSteps Asks x gs (n + 1) z left found

-- so many steps are begun before an answer: the last finds nothing out, or there are as many as may be. An error breaks the last one off
abbrev pub CountsSteps : {X A : Type 0} (Asks : X → X → GoalSource × Goal → Evaluated → Type 0) → ℕ → X → List (GoalSource × Goal) → ℕ → X → List (GoalSource × Goal) → Result A EvalError → Type 0
CountsSteps Asks limit x gs n y left (Ok c) = (found : Bool) × MakesSteps Asks x gs n y left found × ((found ≡ false) ⊎ (n ≡ limit))
CountsSteps {X} Asks limit x gs n y left (Err e) = (k : ℕ) × (z : X) × (n ≡ k + 1) × MakesSteps Asks x gs k z left true
