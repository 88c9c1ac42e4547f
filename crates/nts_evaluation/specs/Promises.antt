-- What the calls of an evaluation promise: one record for each family of calls.
use Rattle.std.specs.Global.{Box}
use Rattle.std.specs.Prelude.{◌≡◌, ◌⊎◌, ℕ, ◌<◌, ◌≤◌, List, length, Option, Result, Err, ◌≢◌, [], ◌∷◌, ◌+◌, Bool, true, false, Ok, IfOk, IfSome, OnOk, OnErr, IsTrue}
use Rattle.nts_model.specs.Lists.{Among}
use Rattle.nts_model.specs.Terms.Trees.{Tree}
use Rattle.nts_model.specs.Tables.Contents.{Content}
use Rattle.nts_model.specs.Derivations.Rules.{Meaning, Mode, GoalKind, statement_of, IsHandlers}
use Rattle.nts_model.specs.Derivations.Handlers.{Handler, Candidate}
use Rattle.nts_theory.specs.Affirming.{SaysAffirmed, IsDenied, HasOwnWay}
use Rattle.nts_theory.specs.Telling.{IsResponseOf, IsPlainResponse, kind_for}
use Rattle.nts_theory.specs.RelatingCandidates.{IsCutIn, HasPlainEquations}
use Rattle.nts_meaning.specs.Telling.{Ruling, Replies, Fails}
use Rattle.nts_model.specs.Derivations.Proofs.{Assumed, passed}
use Rattle.nts_model.specs.Searching.Stacks.{IsDerivedFrom, HoldsCandidateFrom, assumptions}
use Rattle.nts_model.specs.Answers.Responses.{answer_sequent}
use Rattle.nts_certainty.specs.declared.sources.PathKind.{PathKind}
use Rattle.nts_store.specs.declared.fault.EvalError.{EvalError}
use Rattle.nts_terms.specs.declared.cx.Cx.{Cx}
use Rattle.nts_terms.specs.declared.modes.TypingMode.{TypingMode}
use Rattle.nts_terms.specs.Modes.{mode_of}
use Rattle.nts_terms.specs.Rest.{Grows}
use Rattle.nts_canonical.specs.declared.types.Canonical.{Canonical}
use Rattle.nts_canonical.specs.declared.types.CanonicalInput.{CanonicalInput}
use Rattle.nts_canonical.specs.Forms.{form_of, input_of, trees_of}
use Rattle.nts_model.specs.Canonical.Inputs.{canonical_of, IsInput}
use Rattle.nts_canonical.specs.Building.{kinds_of}
use Rattle.nts_response.specs.declared.types.Response.{Response}
use Rattle.nts_response.specs.Forms.{response_at}
use Rattle.nts_candidates.specs.Offered.{path_kind_of, candidate_of}
use Rattle.nts_search.specs.declared.stack.SearchGraph.{SearchGraph}
use Rattle.nts_meaning.specs.Meant.{Since, Rules, Always, meaning_since, ruling_since, IsQueryTold, IsQueryRefuted, AreOffered, HoldsSince, IsServedSince, IsProvedNow, IsProvedFromSince, IsNestedSince, EvaluatesGoal, IsRefusedIn, IsRefusedUnder, IsTold, IsRefuted, HaveOutcomes, CandidatesTell, RepliesWith, FailsIn, HasRunTo, ReachesBy, ReachesAsked, RefusesOneAsked}
use Rattle.nts_meaning.specs.Searching.{Searches, HeadsTell, IsCut, assumed_in, IsHeadAnswer, IsAnswerTold, IsGoalCut}
use Rattle.nts_meaning.specs.Answering.{IsAnswerTo, IfAnswered, IfCertain, IfSure, is_yes, verdict_at}
use Rattle.nts_model.specs.Tables.Passing.{BringsOnly}
use Rattle.nts_certainty.specs.declared.sources.GoalSource.{GoalSource}
use Rattle.nts_certainty.specs.declared.certainty.Certainty.{Certainty}
use Rattle.nts_terms.specs.declared.handles.Goal.{Goal}
use Rattle.nts_terms.specs.declared.handles.GenericArg.{GenericArg}
use Rattle.nts_unify.specs.Reading.{content_of}
use Rattle.nts_table.specs.Tables.{Table}
use Rattle.nts_candidates.specs.declared.data.CandidateData.{CandidateData}
use Rattle.nts_search.specs.declared.kinds.CurrentGoalKind.{CurrentGoalKind}
use Rattle.nts_search.specs.Kinds.{goal_kind_of}
use Rattle.nts_search.specs.Searching.{entry_at, entries_at, HasNoInput, counted_inputs, counted_rounds}
use Rattle.nts_meaning.specs.declared.response.Evaluated.{Evaluated}
use Rattle.nts_trying.specs.declared.steps.Step.{Step}
use Rattle.nts_asking.specs.declared.round.Round.{Round}
use Rattle.nts_asking.specs.declared.round.Ended.{Ended}
use Rattle.nts_asking.specs.Rounds.{rounds_before}
use Rattle.nts_trying.specs.Found.{Found}
use Rattle.nts_evaluation.specs.Counting.{AnsweredAtOnce, AsksOrSkips, AsksOnce, AsksEach, CountsSteps}
use Rattle.nts_evaluation.specs.Deciding.{IsQueryDecided, IsOwnSettled, CanDecide, IsBelow, IsAsBefore, Decides, IsYes, IsYesUnchanged, IsOwnYes, IsRoundDecided, IsRootQuery, AreRootValues, CandidatesSettled, IsSettled, GoalsSettled, IsQueryAtFirst, IsFactHere, IsPlainCandidate, ArePlainCandidates, IsOverIfSilent, IsFactForm, IsRoundYes}
use Rattle.nts_decisions.specs.Deciding.{IsGoalDecided}
use Rattle.nts_trying.specs.Asking.{IsProvedAsked}
use Rattle.nts_trying.specs.Stopping.{StopsIn}
use Rattle.nts_trying.specs.Aliasing.{IsAliasTold, IsAliasRefuted, IsNormalizedBy, NormalTold, NormalRefuted, RunsWay, WayTold, WayRefuted}
use Rattle.nts_trying.specs.Subtyping.{AreVariablesIn, AreSubtypesBy, SubtypesTold, SubtypesRefuted, IsJoinedAnswer}
use Rattle.nts_trying.specs.declared.subtypes.TypePair.{TypePair}
use Rattle.nts_trying.specs.Stepping.{ArePosed, AreLeft, AreSettled, terms_of, bound_of}
use Rattle.nts_trying.specs.declared.steps.AvailableDepth.{AvailableDepth}
use Rattle.nts_model.specs.Derivations.Sequents.{Premise}
use Rattle.nts_store.specs.Formed.{AreFormed}
use Rattle.nts_meaning.specs.Evaluation.{Runs, asked_terms, goals_at}
use Rattle.nts_store.specs.declared.fault.EvalError.TheVariants as error
use Rattle.nts_certainty.specs.declared.certainty.Certainty.TheVariants as certainty
use Rattle.nts_store.specs.Growth.{tree_at}
use Rattle.nts_model.specs.Tables.Resolving.{deeply_resolved}

-- since any earlier store in which the handler's terms stood, and where the provisional answers on the stack are told by what the
-- handler meant then
abbrev pub WhereTold : Rules → Cx → SearchGraph → (Ruling → Type 0) → Type 0
WhereTold R a g P = (s : Since R.ready a) → HeadsTell (ruling_since R.handler s) a.nodes g → P (ruling_since R.handler s)

-- since any such store: where a goal is decided so, and the search may go so deep, it is answered as it is decided
abbrev pub AnswersDecided : {A : Type 0} → Rules → Cx → SearchGraph → SearchGraph → ℕ → (Handler → ℕ → Bool → Type 0) → Result A EvalError → (A → Type 0) → Type 0
AnswersDecided R a g h depth Is r P =
    Always R a (λ s. (n : ℕ) (b : Bool) → Is (R.handler s.base) n b → CanDecide (R.handler s.base) a g n depth → Decides b r P g h)

-- what is assumed behind a step of that kind
abbrev pub assumed_behind : PathKind → Cx → SearchGraph → List Assumed
assumed_behind k b h = passed (path_kind_of k) (assumed_in b.nodes h)

-- a query's answer: a response, or that there is no solution
abbrev pub IsAnswered : Result (Box (Canonical Response)) EvalError → Type 0
IsAnswered (Ok b) = Unit {0}
IsAnswered (Err error.NoSolution) = Unit {0}
IsAnswered (Err e) = ⊥

-- a query of that input is answered, which a step of that kind asks
pub record AnswersQuery (R : Rules) (a b : Cx) (g h : SearchGraph) (input : CanonicalInput) (step : PathKind) (depth : ℕ) (r : Result (Box (Canonical Response)) EvalError) : Type 0 where
  pub grows : Grows a b
  pub searches : Searches a b g h
  -- a round was counted, where the input did not stand on the stack; and that it stood there beside the others
  pub counted : HasNoInput a.nodes g input → 0 < a.round_limit → IsAnswered r → (0 < counted_rounds h) × (length g.stack.items < counted_inputs h)
  -- the answer can be applied wherever such an input is asked
  pub fits : IfAnswered r (IsAnswerTo b.nodes (kinds_of input))
  -- a certain one is derived from what is assumed
  pub proved : Always R a (λ s. IfCertain r (λ x. IsDerivedFrom (meaning_since R.handler s) (mode_of input.typing_mode) (assumed_behind step b h) (answer_sequent (form_of a.nodes input) (response_at b.nodes x))))
  -- and an answer is told, or refuted
  pub told : WhereTold R a g (λ m. IfAnswered r (IsQueryTold m (mode_of input.typing_mode) a.nodes input b.nodes))
  pub refuted : WhereTold R a g (λ m. r ≡ Err error.NoSolution → IsQueryRefuted m (mode_of input.typing_mode) a.nodes input ⊎ IsCut a.nodes g (form_of a.nodes input) input.typing_mode step)
  -- what is decided is answered so, and the positions are their own values
  pub decided : AnswersDecided R a g h (depth + 1) (λ m n b. IsBelow n (λ k. IsQueryDecided m (mode_of input.typing_mode) k (form_of a.nodes input) b)) r (λ x. IsOwnYes b.nodes (kinds_of input) x.value)
  -- where one candidate without goals decides its goal, and it does not stand on the stack, it is answered yes
  pub facts : WhereTold R a g (λ m. IsFactForm m.handler (mode_of input.typing_mode) (form_of a.nodes input) → HasNoInput a.nodes g input → CanDecide m.handler a g 0 (depth + 1) → Decides true r (λ x. IsYes x.value.value.certainty) g h)

-- what a table came to stand for has only labels of these trees
abbrev pub BringsOnlyOf : List Tree → Cx → Table → Cx → Table → Type 0
BringsOnlyOf ts a t b u = BringsOnly ts (content_of a.nodes t.entries) (content_of b.nodes u.entries)

-- a goal of a table is asked in a query of its own, by a step of that kind
pub record AsksGoal (R : Rules) (a b : Cx) (g h : SearchGraph) (t u : Table) (goal : Goal) (step : PathKind) (depth : ℕ) (r : Result Evaluated EvalError) : Type 0 where
  pub runs : Runs a b t u
  pub searches : Searches a b g h
  pub err : OnErr r (u ≡ t)
  pub labels : OnOk r (BringsOnlyOf (asked_terms a.nodes goal) a t b u)
  pub proved : Always R a (λ s. IfSure r (IsProvedFromSince R.handler s t.mode (assumed_behind step b h) b.nodes u goal))
  pub told : WhereTold R a g (λ m. IfOk r (λ e. EvaluatesGoal m t.mode a.nodes t b.nodes u goal e.certainty e.has_changed))
  pub refuted : WhereTold R a g (λ m. r ≡ Err error.NoSolution → IsRefusedIn m t.mode a.nodes t goal ⊎ IsGoalCut a.nodes g (content_of a.nodes t.entries) t.mode (tree_at a.nodes goal.param_env.node) (tree_at a.nodes goal.predicate.node) step)
  pub decided : AnswersDecided R a g h (depth + 1) (λ m n b. IsBelow n (λ k. IsGoalDecided m (mode_of t.mode) k (tree_at a.nodes goal.param_env.node) (tree_at a.nodes goal.predicate.node) b)) r IsYesUnchanged
  -- at the root: where one candidate without goals decides the goal of its query, and it is not refused, it is answered yes
  pub facts : WhereTold R a g (λ m. (IsInput (input_of a.nodes t.entries goal []) → IsFactForm m.handler (mode_of t.mode) (canonical_of (input_of a.nodes t.entries goal []))) → (IsRefusedIn m t.mode a.nodes t goal → ⊥) → g.stack.items ≡ [] → CanDecide m.handler a g 0 (depth + 1) → Decides true r (λ e. IsYes e.certainty) g h)

-- .. as the table knows it; or not at all, where it is answered at once, or no depth is left for it: then the overflow is marked
pub record AsksAdded (R : Rules) (a b : Cx) (g h : SearchGraph) (t u : Table) (goal : Goal) (step : PathKind) (depth : AvailableDepth) (r : Result Evaluated EvalError) : Type 0 where
  pub runs : Runs a b t u
  pub searches : Searches a b g h
  pub err : OnErr r (u ≡ t)
  pub labels : OnOk r (BringsOnlyOf (asked_terms a.nodes goal) a t b u)
  pub proved : Always R a (λ s. IfSure r (IsProvedFromSince R.handler s t.mode (assumed_behind step b h) b.nodes u goal))
  pub marks : Always R a (λ s. bound_of depth ≡ 0 → IfOk r (λ e. IsTrue h.has_overflowed ⊎ AnsweredAtOnce (R.handler s.base) a t goal e.certainty))
  pub told : WhereTold R a g (λ m. IfOk r (AsksOrSkips m t.mode depth a t b u goal))
  pub refuted : WhereTold R a g (λ m. r ≡ Err error.NoSolution → IsRefusedUnder m t.mode a.nodes t goal ⊎ (let c = content_of a.nodes t.entries in IsGoalCut a.nodes g c t.mode (deeply_resolved c (tree_at a.nodes goal.param_env.node)) (deeply_resolved c (tree_at a.nodes goal.predicate.node)) step))
  pub decided : AnswersDecided R a g h (bound_of depth) (λ m n b. IsBelow n (λ k. (let c = content_of a.nodes t.entries in IsGoalDecided m (mode_of t.mode) k (deeply_resolved c (tree_at a.nodes goal.param_env.node)) (deeply_resolved c (tree_at a.nodes goal.predicate.node)) b))) r IsYesUnchanged

-- a round of a query: the input was on the stack, and is off it again
pub record EndsRound (R : Rules) (a b : Cx) (g h : SearchGraph) (asked : Round) (step : PathKind) (depth : ℕ) (r : Result (Box Ended) EvalError) : Type 0 where
  pub grows : Grows a b
  pub searches : Searches a b g h
  pub entry : IfOk r (λ z. (z.value.entry.input ≡ asked.input) × (z.value.entry.step_kind ≡ step) × (z.value.entry.provisional ≡ asked.provisional) × (z.value.entry.round ≡ rounds_before asked + 1))
  pub fits : IfOk r (λ z. IsHeadAnswer b.nodes (kinds_of asked.input) z.value.answer)
  pub counted : IfOk r (λ z. (rounds_before asked < counted_rounds h) × (length g.stack.items < counted_inputs h))
  pub proved : Always R a (λ s. IfOk r (λ z. IfSome z.value.answer (λ x. x.value.certainty ≡ certainty.Yes → IsDerivedFrom (meaning_since R.handler s) (mode_of asked.input.typing_mode)
      (assumptions (entry_at b.nodes z.value.entry ∷ entries_at b.nodes h)) (answer_sequent (form_of a.nodes asked.input) (response_at b.nodes x)))))
  pub told : WhereTold R a g (λ m. IsAnswerTold m (mode_of asked.input.typing_mode) a.nodes (form_of a.nodes asked.input) asked.provisional
      → IfOk r (λ z. IsAnswerTold m (mode_of asked.input.typing_mode) b.nodes (form_of a.nodes asked.input) z.value.answer))
  pub no : r ≢ Err error.NoSolution
  -- a decided goal reads no provisional answer
  pub decided : Always R a (λ s. (n : ℕ) (k : Bool) → IsBelow n (λ m. IsQueryDecided (R.handler s.base) (mode_of asked.input.typing_mode) m (form_of a.nodes asked.input) k) → CanDecide (R.handler s.base) a g n (depth + 1)
      → IfOk r (λ z. (z.value.entry.is_read ≡ false) × IsRoundDecided k b.nodes (kinds_of asked.input) z.value.answer × IsAsBefore g h))
  pub facts : WhereTold R a g (λ m. IsAnswerTold m (mode_of asked.input.typing_mode) a.nodes (form_of a.nodes asked.input) asked.provisional → IsFactForm m.handler (mode_of asked.input.typing_mode) (form_of a.nodes asked.input) → CanDecide m.handler a g 0 (depth + 1)
      → IfOk r (λ z. (z.value.entry.is_read ≡ false) × IsRoundYes z.value.answer × IsAsBefore g h))

-- a goal of a query's table is answered for the terms that stand for its positions
pub record AnswersGoal (R : Rules) (a b : Cx) (g h : SearchGraph) (t : Table) (goal : Goal) (values : List GenericArg) (depth : ℕ) (r : Result (Box (Canonical Response)) EvalError) : Type 0 where
  pub grows : Grows a b
  pub searches : Searches a b g h
  pub found : IfAnswered r (Found (λ c u. Always R a (λ s. IsProvedNow R.handler s t.mode (assumed_in b.nodes h) c u goal)) a.nodes b.nodes t goal values)
  pub told : WhereTold R a g (λ m. IfAnswered r (IsTold m t.mode a.nodes t goal values b.nodes))
  pub refuted : WhereTold R a g (λ m. r ≡ Err error.NoSolution → IsRefuted m t.mode a.nodes t goal values)
  pub decided : AnswersDecided R a g h depth (λ m n b. IsRootQuery a.nodes t goal values × IsGoalDecided m (mode_of t.mode) n (tree_at a.nodes goal.param_env.node) (tree_at a.nodes goal.predicate.node) b) r (λ x. IsYes x.value.value.certainty)
  -- one candidate without goals decides it
  pub facts : WhereTold R a g (λ m. IsFactHere m.handler t.mode a.nodes t goal values → CanDecide m.handler a g 0 depth → Decides true r (λ x. IsYes x.value.value.certainty) g h)

-- what is known of a goal of the engine's own kinds, the trees of which are of the store a: that the handler affirms it, or that its
-- own way holds in the table c
abbrev pub HoldsOwn : Handler → Meaning → Mode → List Assumed → List Tree → Goal → Content → Type 0
HoldsOwn h m mode A a g c =
    SaysAffirmed h.judges (tree_at a g.param_env.node) (tree_at a g.predicate.node)
    ⊎ ((x : Candidate) × HasOwnWay h.judges (tree_at a g.param_env.node) (tree_at a g.predicate.node) x × HoldsCandidateFrom m mode A c (tree_at a g.predicate.node) x)

-- .. what a response of the store b says of it: yes, where the table is as before; the verdict of its own way; or nothing
abbrev pub OwnTold : Ruling → TypingMode → List Tree → Table → Goal → List GenericArg → List Tree → Canonical Response → Type 0
OwnTold h mode a t g qs b r =
    SaysAffirmed (let m = h.handler in m.judges) (tree_at a g.param_env.node) (tree_at a g.predicate.node) × (is_yes r.value.certainty ≡ true) × IsResponseOf (content_of a t.entries) (trees_of a qs) (response_at b r)
    ⊎ ((x : Candidate) × HasOwnWay (let m = h.handler in m.judges) (tree_at a g.param_env.node) (tree_at a g.predicate.node) x × HasPlainEquations x × Replies h (mode_of mode) (content_of a t.entries) (tree_at a g.param_env.node) (tree_at a g.predicate.node) (trees_of a qs) x (verdict_at b r))
    ⊎ (is_yes r.value.certainty ≡ false) × IsPlainResponse (content_of a t.entries) (trees_of a qs) (response_at b r)

-- .. and why it has no solution: the handler denies it, or its own way fails
abbrev pub OwnRefuted : Ruling → TypingMode → List Tree → Table → Goal → Type 0
OwnRefuted h mode a t g =
    IsDenied (let m = h.handler in m.judges) (statement_of (tree_at a g.predicate.node))
    ⊎ ((x : Candidate) × HasOwnWay (let m = h.handler in m.judges) (tree_at a g.param_env.node) (tree_at a g.predicate.node) x × HasPlainEquations x × Fails h (mode_of mode) (kind_for h.handler (tree_at a g.predicate.node)) (content_of a t.entries) (tree_at a g.param_env.node) x)

-- such a goal is answered
pub record AnswersOwn (R : Rules) (a b : Cx) (g h : SearchGraph) (t : Table) (goal : Goal) (values : List GenericArg) (depth : ℕ) (r : Result (Box (Canonical Response)) EvalError) : Type 0 where
  pub grows : Grows a b
  pub searches : Searches a b g h
  pub found : IfAnswered r (Found (λ c v. Always R a (λ s. HoldsOwn (R.handler s.base) (meaning_since R.handler s) (mode_of t.mode) (assumed_in b.nodes h) a.nodes goal (content_of c v.entries))) a.nodes b.nodes t goal values)
  pub told : WhereTold R a g (λ m. IfAnswered r (OwnTold m t.mode a.nodes t goal values b.nodes))
  pub refuted : WhereTold R a g (λ m. r ≡ Err error.NoSolution → OwnRefuted m t.mode a.nodes t goal)
  -- what the handler affirms or denies is answered so, and where the one way of the goal is decided, the goal is answered as it is
  pub decided : AnswersDecided R a g h depth (λ m n b. IsOwnSettled m t.mode n a.nodes t goal b) r (λ x. IsYes x.value.value.certainty)

-- a goal that one type is a subtype of another is answered
pub record AnswersSubtype (R : Rules) (a b : Cx) (g h : SearchGraph) (t : Table) (goal : Goal) (p : TypePair) (values : List GenericArg) (r : Result (Box (Canonical Response)) EvalError) : Type 0 where
  pub grows : Grows a b
  pub searches : Searches a b g h
  pub found : IfAnswered r (Found (λ c v. Always R a (λ s. AreSubtypesBy (meaning_since R.handler s) (mode_of t.mode) (assumed_in b.nodes h) (content_of c v.entries) (tree_at a.nodes goal.param_env.node) (tree_at a.nodes p.sub.node) (tree_at a.nodes p.sup.node))) a.nodes b.nodes t goal values)
  pub told : WhereTold R a g (λ m. IfAnswered r (λ x. SubtypesTold m (mode_of t.mode) (content_of a.nodes t.entries) (tree_at a.nodes goal.param_env.node) (tree_at a.nodes goal.predicate.node) (trees_of a.nodes values) (verdict_at b.nodes x)))
  pub refuted : WhereTold R a g (λ m. r ≡ Err error.NoSolution → SubtypesRefuted m (mode_of t.mode) (content_of a.nodes t.entries) (tree_at a.nodes goal.param_env.node) (tree_at a.nodes goal.predicate.node))
  -- two type variables are of one sub-unification class then, and nothing else is said of them
  pub joined : (n m : ℕ) → AreVariablesIn a.nodes t p n m → IsCutIn (mode_of t.mode) → IfAnswered r (IsJoinedAnswer a.nodes b.nodes t (trees_of a.nodes values) n m)

-- a goal about an alias, or one in which an alias stands, is answered by what a handler offers
pub record AnswersAlias (R : Rules) (a b : Cx) (g h : SearchGraph) (t : Table) (goal : Goal) (values : List GenericArg) (r : Result (Box (Canonical Response)) EvalError) : Type 0 where
  pub grows : Grows a b
  pub searches : Searches a b g h
  pub found : IfAnswered r (Found (λ c v. Always R a (λ s. IsServedSince R.handler s t.mode (assumed_in b.nodes h) c v goal)) a.nodes b.nodes t goal values)
  pub told : WhereTold R a g (λ m. IfAnswered r (IsAliasTold m t.mode a.nodes t goal values b.nodes))
  pub refuted : WhereTold R a g (λ m. r ≡ Err error.NoSolution → IsAliasRefuted m t.mode a.nodes t goal values)

-- a goal that an alias is equal to a term, or that the one is a subtype of the other, is answered
pub record AnswersEquated (R : Rules) (a b : Cx) (g h : SearchGraph) (t : Table) (goal : Goal) (values : List GenericArg) (r : Result (Box (Canonical Response)) EvalError) : Type 0 where
  pub grows : Grows a b
  pub searches : Searches a b g h
  pub found : IfAnswered r (Found (λ c v. Always R a (λ s. IsNormalizedBy (meaning_since R.handler s) (mode_of t.mode) (assumed_in b.nodes h) (content_of c v.entries) (tree_at a.nodes goal.param_env.node) (tree_at a.nodes goal.predicate.node))) a.nodes b.nodes t goal values)
  pub told : WhereTold R a g (λ m. IfAnswered r (λ x. NormalTold m (mode_of t.mode) (content_of a.nodes t.entries) (tree_at a.nodes goal.param_env.node) (tree_at a.nodes goal.predicate.node) (trees_of a.nodes values) (verdict_at b.nodes x)))
  pub refuted : WhereTold R a g (λ m. r ≡ Err error.NoSolution → NormalRefuted m (mode_of t.mode) (content_of a.nodes t.entries) (tree_at a.nodes goal.param_env.node) (tree_at a.nodes goal.predicate.node))

-- .. by a way
pub record AnswersWay (R : Rules) (way : Option TypePair) (a b : Cx) (g h : SearchGraph) (t u : Table) (goal : Goal) (values : List GenericArg) (r : Result (Box (Canonical Response)) EvalError) : Type 0 where
  pub same : u ≡ t
  pub grows : Grows a b
  pub searches : Searches a b g h
  pub found : IfAnswered r (Found (λ c v. Always R a (λ s. IsNormalizedBy (meaning_since R.handler s) (mode_of t.mode) (assumed_in b.nodes h) (content_of c v.entries) (tree_at a.nodes goal.param_env.node) (tree_at a.nodes goal.predicate.node))) a.nodes b.nodes t goal values)
  pub told : WhereTold R a g (λ m. IfAnswered r (λ x. WayTold m (mode_of t.mode) way (content_of a.nodes t.entries) (tree_at a.nodes goal.param_env.node) (tree_at a.nodes goal.predicate.node) (trees_of a.nodes values) (verdict_at b.nodes x)))
  pub refuted : WhereTold R a g (λ m. r ≡ Err error.NoSolution → WayRefuted m (mode_of t.mode) way (content_of a.nodes t.entries) (tree_at a.nodes goal.param_env.node) (tree_at a.nodes goal.predicate.node))

-- .. what is left of it by a way is asked, and what that did stays in the table
pub record TriesWay (R : Rules) (way : Option TypePair) (a b : Cx) (g h : SearchGraph) (t u : Table) (goal : Goal) (r : Result Certainty EvalError) : Type 0 where
  pub runs : Runs a b t u
  pub searches : Searches a b g h
  pub labels : OnOk r (BringsOnlyOf (asked_terms a.nodes goal) a t b u)
  pub proved : Always R a (λ s. r ≡ Ok certainty.Yes → IsNormalizedBy (meaning_since R.handler s) (mode_of t.mode) (assumed_in b.nodes h) (content_of b.nodes u.entries) (tree_at a.nodes goal.param_env.node) (tree_at a.nodes goal.predicate.node))
  pub told : WhereTold R a g (λ m. OnOk r (RunsWay m (mode_of t.mode) way (content_of a.nodes t.entries) (tree_at a.nodes goal.param_env.node) (tree_at a.nodes goal.predicate.node) (content_of b.nodes u.entries)))
  pub refuted : WhereTold R a g (λ m. r ≡ Err error.NoSolution → WayRefuted m (mode_of t.mode) way (content_of a.nodes t.entries) (tree_at a.nodes goal.param_env.node) (tree_at a.nodes goal.predicate.node))

-- .. by candidates: what is proved where the answer is certain; what is told and refuted of them; how they fare where the goal is
-- decided; and what is so where one of them decides it, which has no goals
pub record AnswersBy (Proved : List Assumed → List Tree → Table → Type 0) (Told : Ruling → Canonical Response → Type 0) (Failed : Ruling → Type 0) (Settled : Handler → ℕ → Bool → Type 0) (Facts : Ruling → Type 0) (R : Rules) (a b : Cx) (g h : SearchGraph) (t u : Table) (goal : Goal)
    (values : List GenericArg) (depth : ℕ) (r : Result (Box (Canonical Response)) EvalError) : Type 0 where
  pub same : u ≡ t
  pub grows : Grows a b
  pub searches : Searches a b g h
  pub found : IfAnswered r (Found (Proved (assumed_in b.nodes h)) a.nodes b.nodes t goal values)
  pub told : WhereTold R a g (λ m. IfAnswered r (Told m))
  pub refuted : WhereTold R a g (λ m. r ≡ Err error.NoSolution → Failed m)
  pub decided : AnswersDecided R a g h depth Settled r (λ x. IsYes x.value.value.certainty)
  pub facts : WhereTold R a g Facts

abbrev pub TriesEach : Rules → Cx → Cx → SearchGraph → SearchGraph → Table → Table → Goal → List GenericArg → List CandidateData → ℕ → Result (Box (Canonical Response)) EvalError → Type 0
TriesEach R a b g h t u goal values xs depth r =
    AnswersBy (λ A c v. Always R a (λ s. AreOffered (R.handler s.base) t.mode a.nodes goal xs → IsServedSince R.handler s t.mode A c v goal)) (λ m. CandidatesTell m t.mode a.nodes t goal values xs b.nodes) (λ m. HaveOutcomes m t.mode a.nodes t goal values xs []) (λ m n k. AreRootValues a.nodes values × CandidatesSettled m t.mode n a.nodes t xs k)
    (λ m. IsQueryAtFirst a.nodes t goal values → CandidatesSettled m.handler t.mode 0 a.nodes t xs true → ArePlainCandidates a.nodes t goal xs → CanDecide m.handler a g 0 depth → Decides true r (λ x. IsYes x.value.value.certainty) g h) R a b g h t u goal values depth r

abbrev pub TriesOne : Rules → Cx → Cx → SearchGraph → SearchGraph → Table → Table → Goal → List GenericArg → CandidateData → ℕ → Result (Box (Canonical Response)) EvalError → Type 0
TriesOne R a b g h t u goal values x depth r =
    AnswersBy (λ A c v. Always R a (λ s. HoldsSince R.handler s t.mode A c v (tree_at a.nodes goal.param_env.node) (tree_at a.nodes goal.predicate.node) (candidate_of a.nodes x))) (λ m. RepliesWith m t.mode a.nodes t goal values x b.nodes) (λ m. FailsIn m t.mode a.nodes t goal x) (λ m n k. IsSettled m t.mode n a.nodes t x k)
    (λ m. IsQueryAtFirst a.nodes t goal values → IsPlainCandidate a.nodes goal (candidate_of a.nodes x) → IfAnswered r (IsOverIfSilent b.nodes (trees_of a.nodes values))) R a b g h t u goal values depth r

-- a candidate is run, and what it did stays in the table
pub record RunsOne (R : Rules) (a b : Cx) (g h : SearchGraph) (t u : Table) (goal : Goal) (x : CandidateData) (depth : ℕ) (r : Result Certainty EvalError) : Type 0 where
  pub runs : Runs a b t u
  pub searches : Searches a b g h
  pub labels : OnOk r (BringsOnlyOf (asked_terms a.nodes goal) a t b u)
  pub proved : Always R a (λ s. r ≡ Ok certainty.Yes → HoldsSince R.handler s t.mode (assumed_in b.nodes h) b.nodes u (tree_at a.nodes goal.param_env.node) (tree_at a.nodes goal.predicate.node) (candidate_of a.nodes x))
  pub told : WhereTold R a g (λ m. OnOk r (HasRunTo m t.mode a.nodes t b.nodes u goal x))
  pub refuted : WhereTold R a g (λ m. r ≡ Err error.NoSolution → FailsIn m t.mode a.nodes t goal x)
  pub decided : AnswersDecided R a g h depth (λ m n k. IsSettled m t.mode n a.nodes t x k) r IsYes

-- each of these goals is proved; or the goal that asks for them is one of a handler's rules, and each is proved as it is, or with terms in
-- the places of its aliases
abbrev pub AreProvedAsked : {ready : List Tree → Type 0} {now : Cx} → (List Tree → Handler) → Since ready now → TypingMode → GoalKind → List Assumed → List Tree → Cx → Table → Tree → List (GoalSource × Goal) → Type 0
AreProvedAsked handler s mode k A a b u says given =
    ((z : GoalSource × Goal) → Among given z → IsNestedSince handler s mode k A b.nodes u z)
    ⊎ IsHandlers (statement_of says) × ((p : Premise) → Among (goals_at a given) p → IsProvedAsked (meaning_since handler s) (mode_of mode) A (content_of b.nodes u.entries) k p)

-- goals of a candidate for a goal that says this are posed in a mode, and asked in steps, those that are asked as they stand: where it is
-- certain, all of them are proved
pub record StepsAsked (R : Rules) (a b : Cx) (g h : SearchGraph) (t u : Table) (mode : TypingMode) (says : Tree) (given : List (GoalSource × Goal)) (kind : CurrentGoalKind) (depth : ℕ) (r : Result Certainty EvalError) : Type 0 where
  pub runs : Runs a b t u
  pub searches : Searches a b g h
  pub labels : OnOk r (BringsOnlyOf (terms_of a.nodes given) a t b u)
  pub proved : Always R a (λ s. AreFormed b.nodes → r ≡ Ok certainty.Yes → AreProvedAsked R.handler s mode (goal_kind_of kind) (assumed_in b.nodes h) a.nodes b u says given)
  pub told : WhereTold R a g (λ m. OnOk r (ReachesAsked m mode (goal_kind_of kind) a.nodes t b.nodes u given))
  pub refuted : WhereTold R a g (λ m. r ≡ Err error.NoSolution → RefusesOneAsked m mode (goal_kind_of kind) a.nodes t given)
  pub decided : AnswersDecided R a g h depth (λ m i k. GoalsSettled m mode i a.nodes t given k) r IsYes

-- goals are asked in steps: `left` are those that are left. After an error too the table is one that asking some of them leaves
pub record StepsGoals (R : Rules) (a b : Cx) (g h : SearchGraph) (t u : Table) (given gone : List (GoalSource × Goal)) (kind : CurrentGoalKind) (depth : AvailableDepth) (n : ℕ) (r : Result Certainty EvalError) : Type 0 where
  pub runs : Runs a b t u
  pub searches : Searches a b g h
  pub steps : n ≤ a.step_limit
  -- the steps that were made, each asking each goal that was left once, in order
  pub counts : WhereTold R a g (λ m. CountsSteps (AsksOnce m t.mode depth) a.step_limit (a, t) given n (b, u) gone r)
  pub posed : ArePosed b.nodes u gone
  pub left : AreLeft given gone
  pub labels : OnOk r (BringsOnlyOf (terms_of a.nodes given) a t b u)
  pub proved : Always R a (λ s. OnOk r (AreSettled (IsNestedSince R.handler s t.mode (goal_kind_of kind) (assumed_in b.nodes h) b.nodes u) given gone))
  pub sure : r ≡ Ok certainty.Yes → gone ≡ []
  pub told : WhereTold R a g (λ m. ReachesBy m t.mode a.nodes t b.nodes u given)
  pub refuted : WhereTold R a g (λ m. r ≡ Err error.NoSolution → StopsIn g kind m t.mode a.nodes (content_of a.nodes t.entries) given)
  pub decided : AnswersDecided R a g h (bound_of depth) (λ m i k. GoalsSettled m t.mode i a.nodes t given k) r IsYes

-- .. and each of them once
pub record StepsOnce (R : Rules) (a b : Cx) (g h : SearchGraph) (t u : Table) (given : List (GoalSource × Goal)) (kind : CurrentGoalKind) (depth : AvailableDepth) (r : Result Step EvalError) : Type 0 where
  pub runs : Runs a b t u
  pub searches : Searches a b g h
  pub posed : IfOk r (λ z. ArePosed b.nodes u z.left.items)
  pub left : IfOk r (λ z. AreLeft given z.left.items)
  pub labels : OnOk r (BringsOnlyOf (terms_of a.nodes given) a t b u)
  pub proved : Always R a (λ s. IfOk r (λ z. AreSettled (IsNestedSince R.handler s t.mode (goal_kind_of kind) (assumed_in b.nodes h) b.nodes u) given z.left.items))
  pub sure : IfOk r (λ z. z.certainty ≡ certainty.Yes → z.left.items ≡ [])
  pub told : WhereTold R a g (λ m. ReachesBy m t.mode a.nodes t b.nodes u given)
  pub asked : WhereTold R a g (λ m. IfOk r (λ z. AsksEach (AsksOnce m t.mode depth) (a, t) given (b, u) z.left.items z.has_changed))
  pub refuted : WhereTold R a g (λ m. r ≡ Err error.NoSolution → StopsIn g kind m t.mode a.nodes (content_of a.nodes t.entries) given)
  -- goals that are decided are certain after one step, which finds nothing out
  pub decided : AnswersDecided R a g h (bound_of depth) (λ m i k. GoalsSettled m t.mode i a.nodes t given k) r (λ z. (z.certainty ≡ certainty.Yes) × (z.has_changed ≡ false))
